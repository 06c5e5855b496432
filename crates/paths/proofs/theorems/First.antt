-- The first of its class (02, S-5), as theorems over the definitions that the contracts cite.
--     Alike skip e f          the edges e and f have one span and are of one class
--     FirstOfClass skip xs x  x is one of the edges xs, and no edge of its span and class stands before it
--     best_first_of_class     the edge given is such: for a span, and for the right and the left neighbour of a place
--     answer_first            "Neighbours .. inherit this": the calls answer the offset of such an edge of the listing
--     path_first              every edge of a path is such
--     shown_first             the text shown, where a neighbour has it, is the txt of such an edge
-- Of proofs/BestLaws: `Each P xs`, P of every element of xs; `OfBest P b`, P of the edge given, and nothing asked where none is. Assumes nothing.
use mathlib.Core.Path.{◌≡◌, refl, ◌∙◌}
use mathlib.Core.Bool.{Bool, true, false}
use mathlib.Core.List.{List, ◌∷◌, ◌++◌}
use mathlib.Core.Option.{none, some}
use Prim.Native.Nat.{ℕ, ◌-◌, ◌<◌}
use native.Mathlib.Omega.{arith}
use Rattle.text.specs.declared.Place.{Place}
use Rattle.text.specs.declared.Offset.{Offset}
use Rattle.edge.specs.Edge.{Edge}
use Rattle.edge.specs.Layout.{edge_at}
use Rattle.paths.specs.declared.Query.{Query}
use Rattle.paths.specs.declared.Query.TheVariants.{Right}
use Rattle.paths.specs.Best.{class, score, Best, best, with_offsets, found}
use Rattle.paths.specs.Reading.{read_check, inside, answer}
use Rattle.paths.specs.Path.{path, rights}
use Rattle.paths.specs.Shown.{shown, shown_part}
use Rattle.paths.proofs.BestLaws.{Each, each_map, OfBest}
use Rattle.paths.proofs.ReadingLaws.{reads, Listed, best_listed, answer_outside, answer_best}
use Rattle.paths.proofs.PathLaws.{path_each}
use Rattle.paths.proofs.theorems.Theorems.{best_first, shown_is}
use Rattle.std.specs.Prelude.{Some, Ok}

pub record Alike (skip : Bool) (e f : Edge) : Type 0 where
  pub start : e.start ≡ f.start
  pub end : e.end ≡ f.end
  pub class : class skip e ≡ class skip f

pub record FirstOfClass (skip : Bool) (xs : List (ℕ × Edge)) (x : ℕ × Edge) : Type 0 where
  pub front : List (ℕ × Edge)
  pub back : List (ℕ × Edge)
  pub split : xs ≡ front ++ (x ∷ back)
  pub none_before : Each (λ y. Alike skip y.1 x.1 → ⊥) front

-- ---- of a list of edges
module _ (skip : Bool) (q : Query) (xs : List (ℕ × Edge)) where
  alike_scores : (e f : Edge) → Alike skip e f → score skip q e ≡ score skip q f
  unfolding score
  alike_scores e f a = cc

  pub best_first_of_class : {x : ℕ × Edge} → best skip q xs ≡ some x → FirstOfClass skip xs x
  best_first_of_class {x} e =
      let i = best_first skip q xs e in
      record {
        front = i.front;
        back = i.back;
        split = i.split;
        none_before = each_map _ _ (λ y l a. omega (arith, alike_scores y.1 x.1 a)) i.front i.before;
      }

  first_held : (b : Best) → best skip q xs ≡ b → OfBest (FirstOfClass skip xs) b
  first_held none e = tt
  first_held (some x) e = best_first_of_class e

-- ---- of the calls, over a line and a listing of k edges that the checks do not refuse
module _ (line s : List ℕ) {n k : ℕ} (readable : read_check line s ≡ Ok (n, k)) where
  pub answer_first : (q : Query) (skip : Bool) {o : Offset} → answer line s q skip ≡ Ok (Some o)
      → FirstOfClass skip (with_offsets k s 2) (o.0, edge_at s o.0)
  unfolding found
  answer_first q skip {o} e = by_place (inside n q) refl
    where
      by_best : (b : Best) → best skip q (with_offsets k s 2) ≡ b → OfBest (Listed n s) b → found b ≡ Some o
          → FirstOfClass skip (with_offsets k s 2) (o.0, edge_at s o.0)
      by_best none g l f = let z : ◌≡◌ {A = ℕ} 0 1 = cc in absurd (omega arith)
      by_best (some (x, d)) g l f =
          let here : record { 0 = x } ≡ o = cc in
          let edge : d ≡ edge_at s x = l.edge in
          rw (← here, ← edge) (best_first_of_class skip q (with_offsets k s 2) g)

      by_place : (t : Bool) → inside n q ≡ t → FirstOfClass skip (with_offsets k s 2) (o.0, edge_at s o.0)
      by_place true t =
          let a = answer_best line s q skip readable t refl ∙ e in
          by_best (best skip q (with_offsets k s 2)) refl (best_listed skip q n k s 2 (reads line s n k readable).spans) (cc)
      by_place false t =
          let a = answer_outside line s q skip readable t ∙ e in
          let z : ◌≡◌ {A = ℕ} 0 1 = cc in
          absurd (omega arith)

  pub shown_first : (p : Place) {x : ℕ × Edge} → p.0 < n → best false (Right p) (with_offsets k s 2) ≡ some x
      → (shown_part line s (shown line s p) ≡ x.1.txt) × FirstOfClass false (with_offsets k s 2) x
  shown_first p h e = (rw e at (shown_is line s p readable h), best_first_of_class false (Right p) (with_offsets k s 2) e)

pub path_first : (skip : Bool) (s : List ℕ) (k a z : ℕ) → Each (FirstOfClass skip (with_offsets k s 2)) (path (rights skip s k) a z)
path_first skip s k a z =
    path_each (FirstOfClass skip (with_offsets k s 2)) (rights skip s k)
    (λ p. first_held skip (Right (record { 0 = p })) (with_offsets k s 2) (rights skip s k p) refl) z (z - a) a

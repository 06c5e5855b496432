-- The passes in turn on stored edges, and refusal 7.
-- In order: the edges that the stored edges stand for; the first pass that joins an edge above TOP decides.
use Prim.Native.Nat.{ℕ}
use mathlib.Core.Path.{◌≡◌, refl, sym, ap, ◌∙◌}
use mathlib.Core.Bool.{Bool, true, false, cond}
use mathlib.Core.List.{List, [], ◌∷◌, ◌++◌, map, map-append}
use mathlib.Core.Option.{Option, none, some}
use lib.Dec.{ltb}
use lib.ListN.{get_or}
use Rattle.text.specs.Text.{Scalars}
use Rattle.whole.specs.Whole.{TOP}
use Rattle.passes.specs.NumEdge as edges
use Rattle.passes.specs.NumEdge.{NumEdge}
use Rattle.passes.specs.Passes.{Pass}
use Rattle.passes.specs.DecimalPasses as decimal
use Rattle.passes.specs.DecimalPasses.{DecimalEdge, point_character, bare_edges}
use Rattle.pass_list.specs.StoredEdge.{StoredEdge, Every, nil}
use Rattle.pass_list.specs.StoredPass.{after, added, first_above}
use Rattle.pass_list.specs.Edges.{edge_of, decimal_edge_of, WellMade}
use Rattle.pass_list.proofs.in_turn.Simulation.{after_agrees, after_made, added_agrees, added_made, above_map}
use Rattle.pass_list.specs.InTurn.{through, added_by}
use Rattle.pass_list.proofs.in_turn.EveryLaws.{every_append}

module _ (point : ℕ → Bool) (w t : List ℕ) (scalars : Scalars w) (points : (p : ℕ) → point p ≡ true → get_or w p 0 ≡ point_character) where
  abbrev Made : StoredEdge → Type 0
  Made = WellMade point w t

  pub through_made : (ps : List Pass) (l : List StoredEdge) → Every Made l → Every Made (through ps l)
  unfolding through
  through_made [] l h = h
  through_made (p ∷ ps) l h = through_made ps (after p l) (after_made point w t scalars points p l h)

  pub through_agrees : (ps : List Pass) (l : List StoredEdge) → Every Made l → map (decimal_edge_of w t) (through ps l) ≡ decimal.through point ps (map (decimal_edge_of w t) l)
  unfolding through decimal.through
  through_agrees [] l h = refl
  through_agrees (p ∷ ps) l h = through_agrees ps (after p l) (after_made point w t scalars points p l h) ∙ ap (decimal.through point ps) (after_agrees point w t scalars points p l h)

  pub added_by_made : (ps : List Pass) (l : List StoredEdge) → Every Made l → Every Made (added_by ps l)
  unfolding added_by
  added_by_made [] l h = nil
  added_by_made (p ∷ ps) l h =
      every_append Made (added p l) (added_by ps (after p l)) (added_made point w t scalars points p l h) (added_by_made ps (after p l) (after_made point w t scalars points p l h))

  pub added_by_agrees : (ps : List Pass) (l : List StoredEdge) → Every Made l → map (decimal_edge_of w t) (added_by ps l) ≡ decimal.added_by point ps (map (decimal_edge_of w t) l)
  unfolding added_by decimal.added_by
  added_by_agrees [] l h = refl
  added_by_agrees (p ∷ ps) l h =
      map-append (decimal_edge_of w t) (added p l) (added_by ps (after p l))
      ∙ rw (added_by_agrees ps (after p l) (after_made point w t scalars points p l h), added_agrees point w t scalars points p l h, after_agrees point w t scalars points p l h)

  -- ---- refusal 7
  pub bare_edges_lem : (l : List StoredEdge) → bare_edges (map (decimal_edge_of w t) l) ≡ map (edge_of w t) l
  bare_edges_lem [] = refl
  bare_edges_lem (x ∷ l) = ap (λ (es : List NumEdge). edge_of w t x ∷ es) (bare_edges_lem l)

  pub above_by_agrees : (ps : List Pass) (l : List StoredEdge) → Every Made l → first_above (added_by ps l) ≡ edges.first_above (bare_edges (decimal.added_by point ps (map (decimal_edge_of w t) l)))
  above_by_agrees ps l h =
      sym (above_map point w t scalars points (added_by ps l) (added_by_made ps l h))
      ∙ ap edges.first_above (sym (bare_edges_lem (added_by ps l)) ∙ ap bare_edges (added_by_agrees ps l h))

-- ---- the first pass that joins an edge above TOP decides
abbrev or_else : Option ℕ → Option ℕ → Option ℕ
or_else none o = o
or_else (some a) o = some a

first_above_append : (l m : List StoredEdge) → first_above (l ++ m) ≡ or_else (first_above l) (first_above m)
unfolding first_above
first_above_append [] m = refl
first_above_append (x ∷ l) m = go (ltb TOP x.value) (first_above_append l m)
  where
    go : (b : Bool) → first_above (l ++ m) ≡ or_else (first_above l) (first_above m)
        → cond b (some x.start) (first_above (l ++ m)) ≡ or_else (cond b (some x.start) (first_above l)) (first_above m)
    go true ih = refl
    go false ih = ih

module _ (p : Pass) (ps : List Pass) (l : List StoredEdge) where
  above_cons : first_above (added_by (p ∷ ps) l) ≡ or_else (first_above (added p l)) (first_above (added_by ps (after p l)))
  unfolding added_by
  above_cons = first_above_append (added p l) (added_by ps (after p l))

  pub above_here : (a : ℕ) → first_above (added p l) ≡ some a → first_above (added_by (p ∷ ps) l) ≡ some a
  above_here a e = above_cons ∙ rw e

  pub above_later : first_above (added p l) ≡ none → first_above (added_by (p ∷ ps) l) ≡ first_above (added_by ps (after p l))
  above_later e = above_cons ∙ rw e

-- One walk over the lattice sets the marks of the places of all edges that meet a test (`specs/Marks.antt`). No contract cites this file.
-- In order: the marks with one edge more, for edges of any kind; the walk over the lattice. Assumes nothing.
use mathlib.Core.Path.{◌≡◌, refl, sym, ap, ◌∙◌}
use mathlib.Core.Bool.{Bool, true, false, cond, ◌||◌}
use mathlib.Core.List.{List, ◌∷◌}
use Prim.Native.Nat.{ℕ, suc, ◌+◌, ◌≤◌, ◌<◌}
use native.Mathlib.Numerals.{add-one}
use native.Mathlib.Omega.{arith}
use native.Mathlib.Decide.{ℕ_discrete}
use lib.ListN.{length, drop, get_or, set, replicate, length-set, length-replicate, get_or-replicate, drop_of_length-le}
use lib.Seq.{get_or-set_same, get_or-set_other, drop-cons}
use borrow.Author.Tests.{eq-eqb, ne_eqb}
use Rattle.edge.specs.Edge.{Edge}
use Rattle.edge.specs.Layout.{edge_at}
use Rattle.lattice.specs.declared.Lattice.{Lattice}
use Rattle.lattice.specs.Kept.{no_edge, offset, Holds}
use Rattle.lattice.proofs.HoldsLaws.{kept_of_lem}
use Rattle.numbers.specs.CallEdge.{Legals}
use Rattle.numbers.specs.Marks.{any_at}
use Rattle.numbers.proofs.stages.SoundLaws.{spanned_at, read_at}

-- with the edges from the i-th on, the marks are those of all edges
pub record Marked {A : Type 0} (test : A → Bool) (place : A → ℕ) (es : List A) (i : ℕ) (marks : List Bool) : Type 0 where
  pub long : length marks ≡ 257
  pub marked : (p : ℕ) → p < 257 → (get_or marks p false || any_at test place (drop i es) p) ≡ any_at test place es p

-- whichever edges the lattice holds
abbrev pub Marking : (Edge → Bool) → (Edge → ℕ) → List ℕ → Lattice → ℕ → List Bool → Type 0
Marking test place w l i marks = (n : ℕ) (es : List Edge) → n ≤ 256 → Holds w l es → Legals n es → Marked test place es i marks

or_true_right : (b c : Bool) → (b || (true || c)) ≡ true
or_true_right true c = refl
or_true_right false c = refl

or-false : (b : Bool) → (b || false) ≡ b
or-false true = refl
or-false false = refl

module _ {A : Type 0} (test : A → Bool) (place : A → ℕ) where
  -- ---- what the marks say of place p with the edge e before the rest, by whether that is its place
  step : (e : A) (rest : List A) (marks : List Bool) (p : ℕ) → place e < length marks → Dec (p ≡ place e)
      → (get_or (cond (test e) (set marks (place e) true) marks) p false || any_at test place rest p) ≡ (get_or marks p false || any_at test place (e ∷ rest) p)
  unfolding any_at
  step e rest marks p h (yes y) = rw (y, eq-eqb (place e) (place e) refl) (by_test (test e))
    where
      by_test : (t : Bool) → (get_or (cond t (set marks (place e) true) marks) (place e) false || any_at test place rest (place e)) ≡ (get_or marks (place e) false || (t || any_at test place rest (place e)))
      by_test true = rw (get_or-set_same marks (place e) true false h) (sym (or_true_right (get_or marks (place e) false) (any_at test place rest (place e))))
      by_test false = refl
  step e rest marks p h (no n) = rw (ne_eqb (place e) p (λ q. n (sym q))) (by_test (test e))
    where
      by_test : (t : Bool) → (get_or (cond t (set marks (place e) true) marks) p false || any_at test place rest p) ≡ (get_or marks p false || any_at test place rest p)
      by_test true = rw (get_or-set_other marks (place e) p true false n)
      by_test false = refl

  -- e is the i-th edge; other is what the list's end counts for
  pub one_more_lem : {es : List A} {i : ℕ} {marks : List Bool} → Marked test place es i marks → i < length es → (other e : A) → e ≡ get_or es i other → place e < 257 → {v : List Bool}
      → v ≡ cond (test e) (set marks (place e) true) marks → Marked test place es (i + 1) v
  one_more_lem {es} {i} {marks} m h other e here b f =
      let l = m.long in
      let rest : drop i es ≡ e ∷ drop (i + 1) es =
      drop-cons es i other h ∙ ap (λ (d : A). d ∷ drop (suc i) es) (sym here) ∙ ap (λ (k : ℕ). e ∷ drop k es) (sym (add-one i)) in
      record {
        long = ap length f ∙ kept_length (test e);
        marked = λ p k. rw f
            (step e (drop (i + 1) es) marks p (omega arith) (ℕ_discrete p (place e))
            ∙ ap (λ (ds : List A). get_or marks p false || any_at test place ds p) (sym rest)
            ∙ m.marked p k);
      }
    where
      kept_length : (t : Bool) → length (cond t (set marks (place e) true) marks) ≡ 257
      kept_length true = length-set marks (place e) true ∙ m.long
      kept_length false = m.long

  pub marked_start : (es : List A) {marks : List Bool} → marks ≡ replicate 257 false → Marked test place es 0 marks
  marked_start es e = record {
    long = ap length e ∙ length-replicate {A = Bool} 257 false;
    marked = λ p h. rw (e, get_or-replicate {A = Bool} 257 p false false h);
  }

  pub marked_end : {es : List A} {i : ℕ} {marks : List Bool} → Marked test place es i marks → length es ≤ i → (p : ℕ) → p < 257 → get_or marks p false ≡ any_at test place es p
  unfolding any_at
  marked_end {es} {i} {marks} m h p k = sym (or-false (get_or marks p false)) ∙ (rw (drop_of_length-le es {i = i} h) at (m.marked p k))

-- ---- the walk over the lattice
module _ (test : Edge → Bool) (place : Edge → ℕ) where
  pub marking_start : {w : List ℕ} {l : Lattice} {marks : List Bool} → marks ≡ replicate 257 false → Marking test place w l 0 marks
  marking_start e n es few q d = marked_start test place es e

  module _ {w : List ℕ} {l : Lattice} (full : (l.len ≡ 0 → ⊥)) {i : ℕ} {marks : List Bool} (m : Marking test place w l i marks) where
    -- the i-th edge stands at an offset; no edge has its place behind its end
    pub marking_turn : ((e : Edge) → e.start < e.end → place e ≤ e.end) → i < l.count → {at : ℕ} → ((es : List Edge) → Holds w l es → at ≡ offset es i) → {v : List Bool}
        → v ≡ cond (test (edge_at w at)) (set marks (place (edge_at w at)) true) marks → Marking test place w l (i + 1) v
    marking_turn inside h {at} here f n es few q d =
        let k = (kept_of_lem q full).count in
        let s = spanned_at q full i h (here es q) d few in
        one_more_lem test place (m n es few q d) (omega arith) no_edge (edge_at w at) (read_at q full i h (here es q) d) (omega (arith, s.within, inside (edge_at w at) s.rises)) f

    pub marking_end : l.count ≤ i → (n : ℕ) (es : List Edge) → n ≤ 256 → Holds w l es → Legals n es → (p : ℕ) → p < 257 → get_or marks p false ≡ any_at test place es p
    marking_end h n es few q d = let c = (kept_of_lem q full).count in marked_end test place (m n es few q d) (omega arith)

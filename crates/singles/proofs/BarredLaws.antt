-- Laws of the marks that are set for the list after G4: which of its edges may not stand, and the walk over it. No contract cites this file.
-- In order: the characters; one edge; the marks with one edge more; the walk. Assumes nothing.
use mathlib.Core.Path.{◌≡◌, refl, sym, ap, ◌∙◌}
use mathlib.Core.Bool.{Bool, true, false, cond, ◌&&◌, ◌||◌, or-true, or-false}
use mathlib.Core.List.{List, [], ◌∷◌, map}
use Prim.Native.Nat.{ℕ, zero, suc, ◌+◌, ◌*◌, ◌≤◌, ◌<◌}
use native.Mathlib.Nat.{zero-add}
use native.Mathlib.Omega.{arith}
use lib.ListN.{length, get_or, set, replicate, length-map}
use lib.Dec.{eqb, ltb}
use borrow.Author.Tests.{eq-eqb, ne_eqb, lt-ltb, le-ltb}
use Rattle.text.specs.Bytes.{same}
use Rattle.text.specs.Sequence.{encode}
use Rattle.text.specs.Text.{chars}
use Rattle.table.specs.Table.{Text}
use Rattle.table.specs.Answers.{optionally}
use Rattle.passes.specs.NumEdge.{NumEdge, or_zero}
use Rattle.pass_list.specs.declared.record.PassEdge.{PassEdge}
use Rattle.pass_list.specs.StoredEdge.{StoredEdge}
use Rattle.pass_list.specs.Stored.{stored_at, stored_list_at}
use Rattle.pass_list.specs.Edges.{between, edge_of, WellMade}
use Rattle.pass_list.specs.Layout.{SIZE}
use Rattle.pass_list.proofs.StoredLaws.{length_stored_edges}
use Rattle.pass_edge.specs.Grounded.{AllGrounded, StoredIs}
use Rattle.numbers.specs.Singles.{barred_characters, one_of, barred}
use Rattle.numbers.proofs.stages.MarkLaws.{Marked, marked_start, marked_end, one_more_lem}
use Rattle.singles.specs.ByPlace.{start_of, barred_at}

-- ---- the characters, in the code's order of tests
in_row : (a b c d e f g : Bool) → ((((a || (b || c)) || d) || (e || f)) || g) ≡ (a || (b || (c || (d || (e || (f || (g || false)))))))
in_row true b c d e f g = refl
in_row false true c d e f g = refl
in_row false false true d e f g = refl
in_row false false false true e f g = refl
in_row false false false false true f g = refl
in_row false false false false false true g = refl
in_row false false false false false false true = refl
in_row false false false false false false false = refl

-- 兩参參伍陆陸什 in UTF-8
pub characters_are : (x : Text) {a b c d e f g : Bool} → a ≡ same x (0xE5 ∷ 0x85 ∷ 0xA9 ∷ []) → b ≡ same x (0xE5 ∷ 0x8F ∷ 0x82 ∷ []) → c ≡ same x (0xE5 ∷ 0x8F ∷ 0x83 ∷ [])
    → d ≡ same x (0xE4 ∷ 0xBC ∷ 0x8D ∷ []) → e ≡ same x (0xE9 ∷ 0x99 ∷ 0x86 ∷ []) → f ≡ same x (0xE9 ∷ 0x99 ∷ 0xB8 ∷ []) → g ≡ same x (0xE4 ∷ 0xBB ∷ 0x80 ∷ [])
    → ((((a || (b || c)) || d) || (e || f)) || g) ≡ one_of barred_characters x
unfolding one_of encode
characters_are x {a} {b} {c} {d} {e} {f} {g} p q r s t u v = in_row a b c d e f g ∙ rw (p, q, r, s, t, u, v)

-- ---- one edge
value_or_zero : (there : Bool) (v : ℕ) → (there ≡ false → v ≡ 0) → or_zero (optionally there v) ≡ v
value_or_zero true v h = refl
value_or_zero false v h = sym (h refl)

barred_is : {point : ℕ → Bool} (w t : List ℕ) (x : StoredEdge) → WellMade point w t x
    → barred (edge_of w t x) ≡ (eqb x.end (suc x.start) && (one_of barred_characters (between w x.start x.end) || ltb 1000 x.value))
unfolding barred edge_of
barred_is w t x m = rw (value_or_zero x.has_value x.value m.value_absent)

module _ {line table : List ℕ} {edge : PassEdge} {stored : StoredEdge} (q : StoredIs line table edge stored) where
  start_is : edge.start.0 ≡ stored.start
  start_is = ap (λ (e : PassEdge). e.start.0) q.is.is

  end_is : edge.end.0 ≡ stored.end
  end_is = ap (λ (e : PassEdge). e.end.0) q.is.is

  pub longer : (edge.end.0 ≡ edge.start.0 + 1 → ⊥) → false ≡ barred (edge_of (chars line) table stored)
  longer h =
      let a = start_is in
      let b = end_is in
      sym (barred_is (chars line) table stored q.sound.made ∙ rw (ne_eqb stored.end (suc stored.start) (λ e. h (omega arith))))

  module _ (one : edge.end.0 ≡ edge.start.0 + 1) {v : ℕ} (value : v ≡ stored.value) where
    single : eqb stored.end (suc stored.start) ≡ true
    single = let a = start_is in let b = end_is in eq-eqb stored.end (suc stored.start) (omega arith)

    pub above : 1000 < v → true ≡ barred (edge_of (chars line) table stored)
    above h = sym (barred_is (chars line) table stored q.sound.made ∙ rw (single, lt-ltb 1000 stored.value (omega arith), or-true))

    pub by_text : v ≤ 1000 → {r : Bool} → r ≡ one_of barred_characters (between (chars line) edge.start.0 edge.end.0) → r ≡ barred (edge_of (chars line) table stored)
    by_text h e = e ∙ rw (start_is, end_is) (sym (barred_is (chars line) table stored q.sound.made ∙ rw (single, le-ltb 1000 stored.value (omega arith), or-false)))

  pub start_in : length (chars line) ≤ 256 → edge.start.0 < 257
  start_in h = let a = start_is in omega (arith, q.sound.made.ordered, q.sound.made.inside)

-- ---- the marks with one edge more
stored_get : (f : StoredEdge → NumEdge) (other : NumEdge) (s : List ℕ) (i n j : ℕ) → j < n → get_or (map f (stored_list_at s i n)) j other ≡ f (stored_at s ((i + j) * SIZE))
unfolding stored_list_at
stored_get f other s i zero j h = absurd (omega arith)
stored_get f other s i (suc n) zero h = let z : i + 0 ≡ i = omega arith in rw z
stored_get f other s i (suc n) (suc j) h = let z : i + suc j ≡ suc i + j = omega arith in rw z (stored_get f other s (suc i) n j (omega arith))

-- ---- the walk: whichever table the edges are grounded in, the marks are those of the first i edges of the list s
abbrev pub BarredMarks : List ℕ → List ℕ → ℕ → ℕ → List Bool → Type 0
BarredMarks line s count i marks =
    (table : List ℕ) → AllGrounded (chars line) table (stored_list_at s 0 count) → Marked barred start_of (map (edge_of (chars line) table) (stored_list_at s 0 count)) i marks

pub barred_start : (line s : List ℕ) (count : ℕ) {marks : List Bool} → marks ≡ replicate 257 false → BarredMarks line s count 0 marks
barred_start line s count e table g = marked_start barred start_of _ e

module _ (line s : List ℕ) (count : ℕ) {i : ℕ} {marks : List Bool} (m : BarredMarks line s count i marks) where
  pub barred_next : i < count → length (chars line) ≤ 256 → {edge : PassEdge} → ((table : List ℕ) → AllGrounded (chars line) table (stored_list_at s 0 count) → StoredIs line table edge (stored_at s (i * SIZE)))
      → {v : List Bool}
      → ((table : List ℕ) (stored : StoredEdge) → StoredIs line table edge stored → v ≡ cond (barred (edge_of (chars line) table stored)) (set marks edge.start.0 true) marks)
      → BarredMarks line s count (i + 1) v
  unfolding edge_of
  barred_next h few {edge} here set_is table g =
      let q = here table g in
      let x = stored_at s (i * SIZE) in
      let e = edge_of (chars line) table x in
      let a = start_is q in
      one_more_lem barred start_of (m table g)
      (omega (arith, length-map (stored_list_at s 0 count) (edge_of (chars line) table), length_stored_edges s 0 count))
      e e (sym (rw zero-add at (stored_get (edge_of (chars line) table) e s 0 count i h)))
      (omega (arith, start_in q few))
      (rw a at (set_is table x q))

  pub barred_end : count ≤ i → (table : List ℕ) → AllGrounded (chars line) table (stored_list_at s 0 count)
      → (place : ℕ) → place < 257 → get_or marks place false ≡ barred_at (map (edge_of (chars line) table) (stored_list_at s 0 count)) place
  barred_end h table g = marked_end barred start_of (m table g) (omega (arith, length-map (stored_list_at s 0 count) (edge_of (chars line) table), length_stored_edges s 0 count))

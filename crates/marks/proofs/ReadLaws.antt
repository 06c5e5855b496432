-- Laws of the edge that a mark is set for (`specs/Marked.antt`). No contract cites this file.
-- In order: the edge that is read; the head of the edge, field by field; what is marked. Assumes nothing.
use mathlib.Core.Path.{◌≡◌, refl, sym, ap, ◌∙◌}
use mathlib.Core.Bool.{Bool, true, false, cond, ◌&&◌}
use mathlib.Core.List.{List}
use mathlib.Core.Option.{none, some}
use Prim.Native.Nat.{ℕ, ◌+◌, ◌-◌, ◌<◌}
use native.Mathlib.Nat.{add-sub_cancel_left}
use native.Mathlib.Numerals.{add-one}
use native.Mathlib.Omega.{arith}
use lib.ListN.{take, drop, set}
use lib.Dec.{eqb}
use Rattle.fields.specs.Fields.{le_at}
use Rattle.fields.specs.Part.{part}
use Rattle.digits.specs.TextEnds.{ends_with_digit}
use Rattle.edge.specs.declared.EdgeView.{EdgeView}
use Rattle.edge.specs.Edge.{Edge, Numeric}
use Rattle.edge.specs.Layout.{stands, only, map_at, text_at, edge_at}
use Rattle.edge.specs.View.{view_at}
use Rattle.paths.specs.Reading.{Spanned}
use Rattle.std.specs.Prelude.{Option, Some, None}
use Rattle.std.specs.Bool.{then_some}
use Rattle.marks.specs.Marked.{digit_ends, ending, one_place, starting, mark_of}

-- ---- the edge that is read
module _ (s : List ℕ) (at : ℕ) {v : EdgeView} (read : v ≡ view_at s at) where
  pub txt_read : take (v.txt.at.0 + v.txt.len - v.txt.at.0) (drop v.txt.at.0 s) ≡ (edge_at s at).txt
  unfolding view_at edge_at text_at part
  txt_read = ap (λ (n : ℕ). take n (drop v.txt.at.0 s)) (add-sub_cancel_left v.txt.at.0 v.txt.len) ∙ ap (λ (z : EdgeView). take z.txt.len (drop z.txt.at.0 s)) read

  end_read : v.end.0 ≡ (edge_at s at).end
  unfolding view_at edge_at
  end_read = ap (λ (z : EdgeView). z.end.0) read

  pub end_in : Spanned 256 s at → v.end.0 < 257
  end_in w = let e = end_read in let i = w.within in omega arith

  module _ {r : Bool} (asked : r ≡ ends_with_digit (take (v.txt.at.0 + v.txt.len - v.txt.at.0) (drop v.txt.at.0 s))) where
    ends_read : r ≡ ends_with_digit (edge_at s at).txt
    ends_read = asked ∙ ap ends_with_digit txt_read

    pub end_marked : then_some r v.end.0 ≡ mark_of digit_ends ending (edge_at s at)
    end_marked = rw (ends_read, end_read)

-- ---- the head of the edge, field by field
module _ (s : List ℕ) (at : ℕ) {m a z : ℕ} {b : Bool} (map : m ≡ map_at s at) (start : a ≡ le_at s (at + 2) 2) (end : z ≡ le_at s (at + 4) 2) (bit-0 : b ≡ stands 0 m) where
  numeric_read : (on : Bool) (x : Numeric) → elim (only on x) [ none ↦ false | some n ↦ true ] ≡ on
  numeric_read true x = refl
  numeric_read false x = refl

  one_place_read : (b && eqb z (a + 1)) ≡ one_place (edge_at s at)
  unfolding one_place edge_at
  one_place_read = rw (bit-0, map, start, end, add-one, numeric_read)

  start_read : (edge_at s at).start ≡ a
  unfolding edge_at
  start_read = sym start

  pub place_read : {n : ℕ} → Spanned n s at → a < n
  place_read w = let e = start_read in let r = w.rises in let i = w.within in omega arith

  pub place_marked : then_some (b && eqb z (a + 1)) a ≡ mark_of one_place starting (edge_at s at)
  place_marked = rw (one_place_read, start_read)

-- ---- what is marked
module _ (test : Edge → Bool) (place : Edge → ℕ) (e : Edge) {r : Option ℕ} (m : r ≡ mark_of test place e) where
  pub marked_at : {p : ℕ} → r ≡ Some p → p ≡ place e
  marked_at i = go (test e) (sym i ∙ m)
    where
      go : (t : Bool) {p : ℕ} → Some p ≡ then_some t (place e) → p ≡ place e
      go true h = cc
      go false h = absurd (let o : ◌≡◌ {A = ℕ} 0 1 = cc in omega (arith, o))

  pub marked_set : (marks : List Bool) {p : ℕ} → r ≡ Some p → set marks p true ≡ cond (test e) (set marks (place e) true) marks
  marked_set marks i = go (test e) (sym i ∙ m)
    where
      go : (t : Bool) {p : ℕ} → Some p ≡ then_some t (place e) → set marks p true ≡ cond t (set marks (place e) true) marks
      go true {p} h = let q : p ≡ place e = cc in rw q refl
      go false h = absurd (let o : ◌≡◌ {A = ℕ} 0 1 = cc in omega (arith, o))

  pub marked_kept : (marks : List Bool) → r ≡ None → marks ≡ cond (test e) (set marks (place e) true) marks
  marked_kept marks i = go (test e) (sym i ∙ m)
    where
      go : (t : Bool) → None ≡ then_some t (place e) → marks ≡ cond t (set marks (place e) true) marks
      go true h = absurd (let o : ◌≡◌ {A = ℕ} 0 1 = cc in omega (arith, o))
      go false h = refl

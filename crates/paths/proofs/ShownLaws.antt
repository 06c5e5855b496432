-- Laws of the text shown (`specs/Shown.antt`). No contract cites this file.
-- In order: offsets of neighbouring places; a part of a slice; the answers. Assumes nothing.
use mathlib.Core.Path.{◌≡◌, sym}
use mathlib.Core.Bool.{false}
use mathlib.Core.List.{List, []}
use Prim.Native.Nat.{ℕ, ◌+◌, ◌-◌, ◌≤◌, ◌<◌}
use native.Mathlib.Nat.{add-sub_cancel_left}
use native.Mathlib.Numerals.{add-one}
use native.Mathlib.Omega.{arith}
use lib.ListN.{length, take, drop, drop_of_length-le, length-append, length-drop}
use lib.Seq.{take-add, take_all, take-nil}
use borrow.Author.Tests.{lt-ltb}
use Rattle.text.specs.declared.Place.{Place}
use Rattle.text.specs.declared.Offset.{Offset}
use Rattle.text.specs.Text.{chars, offset_of}
use Rattle.text.proofs.TextLaws.{encodes_append}
use Rattle.fields.specs.Part.{part}
use Rattle.edge.specs.declared.EdgeView.{EdgeView}
use Rattle.edge.specs.View.{view_at}
use Rattle.paths.specs.declared.Query.TheVariants as Query
use Rattle.paths.specs.Best.{best, with_offsets, found}
use Rattle.paths.specs.Reading.{read_check}
use Rattle.paths.specs.Shown.{shown_by, shown}
use Rattle.std.specs.Prelude.{Option, Some, None, Ok}
use Rattle.paths.specs.declared.Shown.{Shown}

-- ---- the bytes of one character lie between the offsets of two places
pub offset_next : (line : List ℕ) (p : ℕ) → offset_of line p ≤ offset_of line (p + 1)
offset_next line p =
    rw (take-add p 1 (chars line), encodes_append (take p (chars line)) (take 1 (drop p (chars line))), length-append) (omega arith)

-- ---- a part of a slice: past its end, up to its end, within it
module _ (s : List ℕ) (at n : ℕ) where
  pub part_past : length s ≤ at → [] ≡ part s at n
  unfolding part
  part_past h = rw (drop_of_length-le s {i = at} h) (sym (take-nil n))

  pub part_to_end : length s - at ≤ n → take (length s - at) (drop at s) ≡ part s at n
  unfolding part
  part_to_end h = rw (take_all (length s - at) (drop at s) (rw (length-drop at s) (omega arith)), take_all n (drop at s) (rw (length-drop at s) h))

  pub part_within : take (at + n - at) (drop at s) ≡ part s at n
  unfolding part
  part_within = rw add-sub_cancel_left

-- ---- the answers
module _ (line s : List ℕ) (p : ℕ) {f : Option Offset} where
  pub shown_listing : {o : Offset} {e : EdgeView} → f ≡ Some o → e ≡ view_at s o.0 → Shown.Listing e.txt ≡ shown_by line s p f
  unfolding view_at shown_by
  shown_listing h v = rw (h, v)

  pub shown_line : {a b : ℕ} → f ≡ None → a ≡ offset_of line p → b ≡ offset_of line (p + 1) → Shown.Line (record { at = record { 0 = a }; len = b - a }) ≡ shown_by line s p f
  unfolding shown_by
  shown_line h x y = rw (h, x, y, add-one)

module _ (line s : List ℕ) (p : Place) where
  module _ {n k : ℕ} (e : read_check line s ≡ Ok (n, k)) where
    pub shown_inside : {w : Shown} → p.0 < n → w ≡ shown_by line s p.0 (found (best false (Query.Right p) (with_offsets k s 2))) → Ok w ≡ shown line s p
    unfolding shown
    shown_inside h b = rw (e, b, lt-ltb p.0 n h)

-- Laws of the rows (`specs/Rows.antt`): what stands behind one another, how long it is, and what a writer answers. No contract cites this file.
-- In order: one column; the mark; a row's columns; the row of an edge of a listing.
use mathlib.Core.Path.{◌≡◌, refl, sym, ap, ◌∙◌}
use mathlib.Core.Bool.{Bool, true, false, not, cond}
use mathlib.Core.List.{List, [], ◌∷◌}
use Prim.Native.Nat.{ℕ, ◌+◌, ◌-◌, ◌≤◌, ◌<◌}
use native.Mathlib.Nat.{add-sub_cancel_left}
use native.Mathlib.Omega.{arith}
use lib.ListN.{length, take, drop, length-append}
use borrow.Author.Tests.{not-true, not-false}
use Rattle.whole.specs.Decimal.{decimal}
use Rattle.fields.specs.Part.{part, part_of}
use Rattle.fields.proofs.PartLaws.{length_part}
use Rattle.fields.specs.declared.Part.{Part}
use Rattle.edge.specs.declared.EdgeView.{EdgeView}
use Rattle.edge.specs.Edge.{Text, Numeric}
use Rattle.edge.specs.Layout.{stands, only, map_at, text_at, string_end, head_end, next_at, numeric_at, edge_at}
use Rattle.edge.specs.View.{view_at}
use Rattle.edge.specs.Write.{Put}
use Rattle.edge.proofs.CheckLaws.{head_within, type_within, txt_within}
use Rattle.edge.proofs.WriteLaws.{put_then}
use Rattle.rows.specs.Columns.{ended}
use Rattle.rows.specs.Rows.{mark, row, row_bytes, view_mark, view_row}

-- ---- one column
-- the part that is lent to a writer
pub put_slice : (s : List ℕ) (p : Part) (by : ℕ) {w t : List ℕ} {at r : ℕ} → Put w t at r (ended (take (p.at.0 + p.len - p.at.0) (drop p.at.0 s)) by) → Put w t at r (ended (part_of s p) by)
unfolding part
put_slice s p by q = rw (add-sub_cancel_left p.at.0 p.len) at q

-- ---- the mark
module _ (m : ℕ) (b : Bool) (bit-0 : b ≡ stands 0 m) where
  pub mark_regular : not b ≡ true → 45 ≡ view_mark m
  mark_regular off = rw (sym bit-0 ∙ not-true b off)

  module _ (on : not b ≡ false) (a : Bool) (bit-7 : a ≡ stands 7 m) where
    pub mark_active : a ≡ true → 49 ≡ view_mark m
    mark_active h = rw (sym bit-0 ∙ not-false b on, sym bit-7 ∙ h)

    pub mark_inactive : a ≡ false → 48 ≡ view_mark m
    mark_inactive h = rw (sym bit-0 ∙ not-false b on, sym bit-7 ∙ h)

mark_only : (b : Bool) (n : Numeric) → cond b (cond n.active 49 48) 45 ≡ mark (only b n)
mark_only true n = refl
mark_only false n = refl

-- ---- a row's columns
pub length_row : (a z : ℕ) (ty tx : Text) (m : ℕ) → length (row a z ty tx m) ≡ length (decimal a) + length (decimal z) + length ty + length tx + 6
unfolding row
length_row a z ty tx m = simp length-append (omega arith)

module _ (s : List ℕ) (e : EdgeView) (ty-in : e.ty.at.0 + e.ty.len ≤ length s) (tx-in : e.txt.at.0 + e.txt.len ≤ length s) where
  pub length_view_row : length (view_row s e) ≡ length (decimal e.start.0) + length (decimal e.end.0) + e.ty.len + e.txt.len + 6
  length_view_row =
      let t = length_part s e.ty.at.0 e.ty.len ty-in in
      let x = length_part s e.txt.at.0 e.txt.len tx-in in
      length_row e.start.0 e.end.0 (part_of s e.ty) (part_of s e.txt) (view_mark e.map) ∙ rw (t, x)

  -- the room for each column
  module _ (at n : ℕ) (room : at + length (view_row s e) ≤ n) where
    pub start_room : at + length (decimal e.start.0) + 1 ≤ n
    start_room = let l = length_view_row in omega arith

    module _ {t u : List ℕ} {k : ℕ} (p : Put t u at k (ended (decimal e.start.0) 9)) where
      pub end_room : k + length (decimal e.end.0) + 1 ≤ n
      end_room = let l = length_view_row in let i = p.next in let j = length-append (decimal e.start.0) (9 ∷ []) in omega arith

      module _ {v : List ℕ} {h : ℕ} (q : Put u v k h (ended (decimal e.end.0) 9)) where
        pub type_room : h + e.ty.len + 1 ≤ n
        type_room =
            let l = length_view_row in
            let i = p.next in
            let j = length-append (decimal e.start.0) (9 ∷ []) in
            let x = q.next in
            let y = length-append (decimal e.end.0) (9 ∷ []) in
            omega arith

        module _ {w : List ℕ} {g : ℕ} (r : Put v w h g (ended (part_of s e.ty) 9)) where
          past_type : g ≡ at + length (decimal e.start.0) + length (decimal e.end.0) + e.ty.len + 3
          past_type =
              let i = p.next in
              let j = length-append (decimal e.start.0) (9 ∷ []) in
              let x = q.next in
              let y = length-append (decimal e.end.0) (9 ∷ []) in
              let a = r.next in
              let b = length-append (part_of s e.ty) (9 ∷ []) in
              let c = length_part s e.ty.at.0 e.ty.len ty-in in
              omega arith

          pub txt_room : g + e.txt.len + 1 ≤ n
          txt_room = let l = length_view_row in let x = past_type in omega arith

          pub mark_room : {x : List ℕ} {f : ℕ} → Put w x g f (ended (part_of s e.txt) 9) → f + 2 ≤ n
          mark_room o =
              let l = length_view_row in
              let x = past_type in
              let a = o.next in
              let b = length-append (part_of s e.txt) (9 ∷ []) in
              let c = length_part s e.txt.at.0 e.txt.len tx-in in
              omega arith

pub put_all_columns : (a z : ℕ) (ty tx : Text) (m : ℕ) {b : ℕ} {s t u v w x : List ℕ} {at h i j k r : ℕ} → b ≡ m
    → Put s t at h (ended (decimal a) 9) → Put t u h i (ended (decimal z) 9) → Put u v i j (ended ty 9) → Put v w j k (ended tx 9) → Put w x k r (ended (b ∷ []) 10)
    → Put s x at r (row a z ty tx m)
unfolding row
put_all_columns a z ty tx m e p q f g h = put_then p (put_then q (put_then f (put_then g (rw e at h))))

-- ---- the row of an edge of a listing
module _ (s : List ℕ) (from : ℕ) (e : EdgeView) (read : e ≡ view_at s from) (there : next_at s from ≤ length s) where
  row_is : view_row s e ≡ row_bytes (edge_at s from)
  unfolding view_at edge_at text_at numeric_at
  row_is = rw read (ap (row _ _ _ _) (mark_only (stands 0 (map_at s from)) (numeric_at (map_at s from) s (head_end s from))))

  pub type_in : e.ty.at.0 + e.ty.len ≤ length s
  type_in = type_within s from (length s) e read (head_within s from (length s) there)

  pub txt_in : e.txt.at.0 + e.txt.len ≤ length s
  txt_in = txt_within s from (length s) e read (head_within s from (length s) there)

  pub row_room : (at : ℕ) {n : ℕ} → at + length (row_bytes (edge_at s from)) ≤ n → at + length (view_row s e) ≤ n
  row_room at h = rw row_is h

  pub row_there : {out t : List ℕ} {at r : ℕ} → Put out t at r (view_row s e) → Put out t at r (row_bytes (edge_at s from))
  row_there p = rw row_is at p

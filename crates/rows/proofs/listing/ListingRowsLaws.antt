-- Laws of the rows of a listing (`specs/ListingRows.antt`), for the loop over its edges. No contract cites this file.
use mathlib.Core.Path.{◌≡◌, refl, sym, ap, ◌∙◌}
use mathlib.Core.List.{List, [], ◌++◌, append_assoc, append-nil}
use Prim.Native.Nat.{ℕ, suc, ◌+◌, ◌-◌, ◌≤◌, ◌<◌}
use native.Mathlib.Omega.{arith}
use lib.ListN.{length, length-append}
use Rattle.fields.specs.Fields.{le_at}
use Rattle.edge.specs.Layout.{next_at, edge_at, edges_at, listed}
use Rattle.edge.specs.Write.{Put}
use Rattle.edge.proofs.WriteLaws.{put_then}
use Rattle.numbers.specs.Call.{listing}
use Rattle.paths.specs.Best.{Whole}
use Rattle.paths.proofs.BestLaws.{whole_end, whole_next}
use Rattle.rows.specs.Rows.{row_bytes}
use Rattle.rows.specs.ListingRows.{rows_bytes, RowsFit}
use Rattle.rows.specs.Printed.{TextIs}
use Rattle.rows.proofs.PrintedLaws.{text_is}

-- ---- the loop: the rows so far, and those to come, of left edges from the offset from on
pub record Walked (s o t : List ℕ) (left from at : ℕ) : Type 0 where
  pub done : List ℕ
  pub put : Put o t 0 at done
  pub all : done ++ rows_bytes (edges_at left s from) ≡ rows_bytes (listed s)
  pub whole : Whole left s from
  pub room : length (rows_bytes (listed s)) ≤ length o

pub walk_start : (s o : List ℕ) {count : ℕ} → count ≡ le_at s 0 2 → RowsFit s o → Walked s o o count 2 0
walk_start s o e f = record { done = []; put = record { wrote = refl; next = refl }; all = rw e; whole = rw e f.whole; room = f.room }

module _ (s o : List ℕ) {t : List ℕ} (left from at : ℕ) (more : 0 < left) (w : Walked s o t left from at) where
  abbrev row : List ℕ
  row = row_bytes (edge_at s from)

  abbrev after : List ℕ
  after = rows_bytes (edges_at (left - 1) s (next_at s from))

  all_after : (w.done ++ row) ++ after ≡ rows_bytes (listed s)
  unfolding rows_bytes edges_at
  all_after =
      let k : suc (left - 1) ≡ left = omega arith in
      let e : rows_bytes (edges_at (suc (left - 1)) s from) ≡ row ++ after = refl in
      append_assoc w.done row after ∙ (ap (λ (x : List ℕ). w.done ++ x) (sym e) ∙ (ap (λ (j : ℕ). w.done ++ rows_bytes (edges_at j s from)) k ∙ w.all))

  -- the edge is whole, and its row has room
  pub walk_whole : next_at s from ≤ length s
  walk_whole = whole_end s from left more w.whole

  pub walk_room : length t ≡ length o → at + length row ≤ length t
  walk_room l =
      let a = ap length all_after in
      let b = length-append (w.done ++ row) after in
      let c = length-append w.done row in
      let d = w.put.next in
      let e = w.room in
      omega arith

  pub walk_next : {u : List ℕ} {n next : ℕ} → Put t u at n row → next ≡ next_at s from → Walked s o u (left - 1) next n
  walk_next p f =
      rw f (record { done = w.done ++ row; put = put_then w.put p; all = all_after; whole = whole_next s from left more w.whole; room = w.room })

pub walk_ends : (s o : List ℕ) {t : List ℕ} (left from at : ℕ) → left ≤ 0 → Walked s o t left from at → TextIs o t at (listing s)
unfolding rows_bytes edges_at
walk_ends s o left from at h w =
    let z : left ≡ 0 = omega arith in
    let a : w.done ++ [] ≡ rows_bytes (listed s) = rw z at w.all in
    let d : w.done ≡ rows_bytes (listed s) = sym (append-nil w.done) ∙ a in
    text_is (listing s) (rw d at w.put) w.room

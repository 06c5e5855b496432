-- What S-8 of 02 promises of the proof sheet. The words are defined in `specs/Sheet.antt` (sheet, page, after, pages, Before), in `sheet_rows` (row_bytes; Rises of
-- `proofs/Rising.antt`: each element stands so to all behind it) and in `numeral` (Valued w v: w has a reading of the grammar of value v).
--     sheet_iff       a row is there exactly for a numeral of one to four characters and value at most TOP, with its value
--     sheet_rises     the rows stand shortest first, then character by character; sheet_once: so each numeral has one row
--     sheet_length    it has 50,577 rows
--     page_fits, page_full   a page's rows fit, and with the next row they would not
--     past_last       a position past the last row gives a page without rows, and the position asked for
--     pages_whole     pages, each from the position after the one before, are together the sheet, where each output has 30 bytes or more: thirty_bytes hold any row
-- Assumes nothing.
use Prim.Native.Nat.{ℕ, ◌+◌, ◌≤◌, ◌<◌}
use mathlib.Core.Path.{◌≡◌, refl, ◌∙◌}
use mathlib.Core.Logic.{◌↔◌}
use mathlib.Core.List.{List, [], ◌∷◌, ◌++◌, Memᴰ}
use native.Mathlib.Omega.{arith}
use lib.ListN.{length, drop, drop_of_length-le}
use Rattle.whole.specs.Whole.{TOP}
use Rattle.grammar.specs.Plain.{Char}
use Rattle.numeral.specs.Numeral.{Valued}
use Rattle.sheet_rows.specs.Rows.{numeral_within, row_bytes, rows_bytes}
use Rattle.sheet_rows.proofs.Rising.{Rises, rises_behind}
use Rattle.sheet_rows.proofs.RowLaws.{rows_in_lem, rows_has, rows_rise, numeral_within_lem}
use Rattle.sheet_counts.proofs.CountLaws.{all_rows}
use Rattle.sheet.specs.Sheet.{candidates, sheet, fitting, page, after, pages, Before}
use Rattle.sheet.proofs.WordLaws.{candidate_length, candidates_rise, candidate_there, not_before}
use Rattle.sheet.proofs.PageLaws.{fitting_fits, fitting_full, page_part, row_size, pages_rest}
use Rattle.sheet.proofs.NumberedLaws.{rows_left}

-- ---- the rows

-- w is a "numeral of one to four characters .. whose value is at most TOP", v
pub record Short (w : List Char) (v : ℕ) : Type 0 where
  pub some_character : 1 ≤ length w
  pub four_at_most : length w ≤ 4
  pub numeral : Valued w v
  pub within : v ≤ TOP

-- "every numeral .. with its value", "and nothing else does"
pub sheet_iff : (w : List Char) (v : ℕ) → Memᴰ (w, v) sheet ↔ Short w v
unfolding sheet
sheet_iff w v = (
  λ m.
      let (i, e) = rows_in_lem numeral_within candidates w v m in
      let (a, b) = candidate_length w i in
      let (n, t) = (numeral_within_lem w v).0 e in
      record { some_character = a; four_at_most = b; numeral = n; within = t },
  λ s. rows_has numeral_within candidates w v (candidate_there w s.some_character s.four_at_most) ((numeral_within_lem w v).1 (s.numeral, s.within)),
)

-- "shortest first, then character by character"
pub sheet_rises : Rises (λ r s. Before r.0 s.0) sheet
unfolding sheet
sheet_rises = rows_rise numeral_within Before candidates candidates_rise

-- "Each appears once": no row behind that of w is again one of w
pub sheet_once : (s t : List (List Char × ℕ)) (w : List Char) (v u : ℕ) → sheet ≡ s ++ ((w, v) ∷ t) → Memᴰ (w, u) t → ⊥
sheet_once s t w v u e m = not_before w (rises_behind (λ r s. Before r.0 s.0) s (w, v) t (rw e at sheet_rises) (w, u) m)

pub sheet_length : length sheet ≡ 50577
unfolding sheet
sheet_length = rows_left 69904 0 refl ∙ all_rows

pub thirty_bytes : (r : List Char × ℕ) → Memᴰ r sheet → length (row_bytes r) ≤ 30
thirty_bytes r m = row_size r m

-- ---- a page

-- "as many whole rows as fit"
pub page_fits : (p n : ℕ) → length (rows_bytes (page p n)) ≤ n
unfolding page
page_fits p n = fitting_fits n (drop p sheet)

-- r is the next row; "none if the first does not" is this for a page without rows
pub page_full : (p n : ℕ) (r : List Char × ℕ) (t : List (List Char × ℕ)) → drop (after p n) sheet ≡ r ∷ t → n < length (rows_bytes (page p n)) + length (row_bytes r)
unfolding page
page_full p n r t e = fitting_full n (drop p sheet) r t (rw e at (page_part p n))

-- "A position past the sheet's last row gives a page without rows."
pub past_last : (p n : ℕ) → length sheet ≤ p → (page p n ≡ []) × (after p n ≡ p)
unfolding after page fitting
past_last p n h = let e = drop_of_length-le sheet h in (rw e, rw e (omega arith))

-- "so that a caller can print it by pages": enough pages are the sheet, no row lost or twice
pub pages_whole : (ns : List ℕ) → ((n : ℕ) → Memᴰ n ns → 30 ≤ n) → length sheet ≤ length ns → pages 0 ns ≡ sheet
pages_whole ns h l = pages_rest ns 0 h (omega arith)

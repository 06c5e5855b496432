-- What the call for a page answers and stores (02, S-8). Definitions only.
--     page_bytes p n    the bytes of the page from position p on, for an output of n bytes
--     answer p n       the answer: how many they are, and the position after the page
--     output p s       what is in the output s afterwards: the page at its front, the rest as it was
--     Assumes nothing.
use Rattle.std.specs.Prelude.{ℕ, List, length}
use Rattle.std.proofs.lemmas.List.Edits.{sets}
use Rattle.sheet_rows.specs.Rows.{rows_bytes}
use Rattle.sheet.specs.declared.Page.{Page}
use Rattle.sheet.specs.Sheet.{page, after}

abbrev pub page_bytes : ℕ → ℕ → List ℕ
page_bytes p n = rows_bytes (page p n)

-- "the answer carries the position after its last row, or without rows the position asked for"
abbrev pub answer : ℕ → ℕ → Page
answer p n = record { bytes = length (page_bytes p n); next = after p n }

abbrev pub output : ℕ → List ℕ → List ℕ
output p s = sets s 0 (page_bytes p (length s))

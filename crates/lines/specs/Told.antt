-- What C is told of the answer: a status, 0 or the refusal's number, and two numbers. Definitions only.
--     lines_told a      a page: its bytes, and the offset behind the last line answered; a refusal: its offset, and 0
--     answer_told r     the same of the code's answer
--     Assumes nothing.
use Rattle.std.specs.Prelude.{ℕ, length, Result, Ok, Err}
use Rattle.answers.specs.Answers.{number, place}
use Rattle.lines.specs.declared.told.CPage.{CPage}
use Rattle.lines.specs.Pages.{Answer, page, refused}
use Rattle.lines.specs.declared.Page.{Page}
use Rattle.answers.specs.declared.Refusal.{Refusal}

abbrev pub c_page : ℕ → ℕ → ℕ → CPage
c_page status at next = record { status = status; at = at; next = next }

-- "`*at` is its length"; "refused 1, then 4 or 5 with the table's offset: `*next` is 0"
abbrev pub lines_told : Answer → CPage
lines_told (page bytes next) = c_page 0 (length bytes) next
lines_told (refused number at) = c_page number at 0

abbrev pub answer_told : Result Page Refusal → CPage
answer_told (Ok p) = c_page 0 p.bytes p.next
answer_told (Err r) = c_page (number r) (place r) 0

-- What the checks 2 to 6 of the call find. Definitions only.
--     table_refusal n at              the refusal of a table, by its number
--     of_table r                      the refusal of a table, by its cause
--     Accepted line table given ..   line, table and given edges passed their checks: so many characters, the table's shape, so many edges
--     CallCheckIs line table given r      the checks 2 to 6 found r: the definition's answer is that refusal, whatever the stages, or they are passed
--     RestIs n table given r         the same of the checks 4 to 6, after a line of n characters
--     CallCheckIndexed table os k r       where the checks are passed, the index over the table's records has k entries, their offsets os
--     Assumes nothing.
use Rattle.std.specs.Prelude.{◌≡◌, true, cond, List, ℕ, length, eqb, Result, Ok, Err}
use Rattle.text.specs.Line.{line_check}
use Rattle.text.specs.declared.Offset.{Offset}
use Rattle.table.specs.Check.{Fine, bad_layout, cause_number, read_table}
use Rattle.table.specs.declared.shape.Cause.{Cause}
use Rattle.table.specs.declared.shape.TableRefusal.{TableRefusal}
use Rattle.table.specs.Answers.{table_of}
use Rattle.table.specs.declared.shape.Shape.{Shape}
use Rattle.edge.specs.Check.{check_listing}
use Rattle.table_check.specs.Indexed.{RecordIndex}
use Rattle.numbers.specs.Ready.{Ready}
use Rattle.numbers.specs.Call.{refused, Stages, after_table_check, after_line_check}
use Rattle.answers.specs.declared.Refusal.{Refusal}
use Rattle.answers.specs.declared.Refusal.TheVariants.{BadTable, BadContent}
use Rattle.answers.specs.Answers.{number, place}

unfoldable pub table_refusal : ℕ → Offset → Refusal
table_refusal n at = cond (eqb n (cause_number bad_layout)) (BadTable at) (BadContent at)

abbrev pub of_table : TableRefusal → Refusal
of_table r = by_cause r.cause r.at
  where
    by_cause : Cause → Offset → Refusal
    by_cause Cause.Layout at = BadTable at
    by_cause Cause.Content at = BadContent at

pub record Accepted (line table given : List ℕ) (n : ℕ) (h : Shape) (count : ℕ) : Type 0 where
  pub ready : Ready line table h n
  pub edges : check_listing true n given ≡ Ok count

unfoldable pub CallCheckIs : List ℕ → List ℕ → List ℕ → Result (ℕ × Shape × ℕ) Refusal → Type 0
CallCheckIs line table given (Ok (n, h, count)) = Accepted line table given n h count
CallCheckIs line table given (Err r) = (stages : Stages) (out : ℕ) → after_line_check stages line table given out (line_check line) ≡ refused (number r) (place r)

unfoldable pub RestIs : ℕ → List ℕ → List ℕ → Result (ℕ × Shape × ℕ) Refusal → Type 0
RestIs n table given (Ok (m, h, count)) = (m ≡ n) × (read_table table ≡ Fine (table_of table h) (length table)) × (check_listing true n given ≡ Ok count)
RestIs n table given (Err r) = (stages : Stages) (w : List ℕ) → length w ≡ n → (out : ℕ) → after_table_check stages w out given (read_table table) ≡ refused (number r) (place r)

unfoldable pub CallCheckIndexed : List ℕ → List ℕ → ℕ → Result (ℕ × Shape × ℕ) Refusal → Type 0
CallCheckIndexed table os k (Ok (n, h, count)) = RecordIndex table h os k
CallCheckIndexed table os k (Err r) = Unit {0}

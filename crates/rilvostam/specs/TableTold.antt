-- What C is told of the check of a table. Definitions only.
--     table_told c     0 and the count of the table's records; or refusal 4 or 5 and its offset
--     Assumes nothing.
use Rattle.std.specs.Prelude.{ℕ, length}
use Rattle.table.specs.Table.{Table}
use Rattle.table.specs.Check.{Checked, Fine, Refused, cause_number}
use Rattle.answers.specs.declared.CStatus.{CStatus}
use Rattle.answers.specs.Answers.{status_of}

abbrev pub table_told : Checked Table → CStatus
table_told (Fine t next) = status_of 0 (length t.records)
table_told (Refused cause at) = status_of (cause_number cause) at

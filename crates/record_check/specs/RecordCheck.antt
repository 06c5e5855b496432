-- What checking a record answers. Definitions only.
--     Passed s at least c next   the record at an offset is fine: its code point is c, at least `least`, and it ends before next
--     RecordCheckIs s at least r        the answer r says what the definition finds at an offset
-- Assumes nothing.
use Rattle.std.specs.Prelude.{◌≡◌, List, ℕ, Result, Ok, Err}
use Rattle.table.specs.Table.{Record}
use Rattle.table.specs.Layout.{read_record}
use Rattle.table.specs.Check.{Fine, item, legal_record}
use Rattle.table.specs.Check as Check
use Rattle.table.specs.declared.shape.Cause.{Cause}

pub record Passed (s : List ℕ) (at least c next : ℕ) : Type 0 where
  pub it : Record
  pub is : item at (legal_record least) (read_record s at) ≡ Fine it next
  pub point : it.code_point ≡ c

abbrev pub RecordCheckIs : List ℕ → ℕ → ℕ → Result (ℕ × ℕ) Cause → Type 0
RecordCheckIs s at least (Ok (c, next)) = Passed s at least c next
RecordCheckIs s at least (Err number) = item at (legal_record least) (read_record s at) ≡ Check.Refused number at

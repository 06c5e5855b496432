-- What a look by few tests tells of a record (01, "Record"): nothing where it answers Other. Definitions only.
--     LegalAt least c f next   the field f holds a legal record with the code point c and ends before next
--     Tail s t rom at next     the numbers at an offset are legal, by the rom at another and the type's first byte t, and the script behind them is ASCII and ends before next
--     TailIs s t rom at r      what the answer r tells of these numbers and the script
--     FieldsIs s at r          what r tells of the fields behind the map
--     PlainIs s at least r     what r tells of the record at an offset
-- Assumes nothing.
use Rattle.std.specs.Prelude.{◌≡◌, true, List, ℕ, ◌+◌, ◌≤◌, ◌<◌, length, get_or, Option, Some, None}
use Rattle.fields.specs.Fields.{le_at}
use Rattle.table.specs.Table.{Record}
use Rattle.table.specs.Layout.{Field, Is, read_fields, read_record}
use Rattle.table.specs.Check.{legal_record}
use Rattle.record_check.specs.Ascii.{Ascii}
use Rattle.record_check.specs.PlainContent.{Head, Numbers}

pub record LegalAt (least c : ℕ) (f : Field Record) (next : ℕ) : Type 0 where
  pub it : Record
  pub is : f ≡ Is it next
  pub legal : legal_record least it ≡ true
  pub point : it.code_point ≡ c

pub record Tail (s : List ℕ) (t rom at next : ℕ) : Type 0 where
  pub numbers : Numbers t (le_at s rom 2) (le_at s at 8) (le_at s (at + 8) 8)
  pub room : at + 16 < length s
  pub short : get_or s (at + 16) 0 ≤ 24
  pub behind : next ≡ at + 17 + get_or s (at + 16) 0
  pub ends : next ≤ length s
  pub script : Ascii s (at + 17) next

abbrev pub TailIs : List ℕ → ℕ → ℕ → ℕ → Option ℕ → Type 0
TailIs s t rom at (Some next) = Tail s t rom at next
TailIs s t rom at None = Unit {0}

abbrev pub FieldsIs : List ℕ → ℕ → Option ℕ → Type 0
FieldsIs s at (Some next) = (least c m : ℕ) → Head least c m → LegalAt least c (read_fields c m s at) next
FieldsIs s at None = Unit {0}

abbrev pub PlainIs : List ℕ → ℕ → ℕ → Option (ℕ × ℕ) → Type 0
PlainIs s at least (Some (c, next)) = LegalAt least c (read_record s at) next
PlainIs s at least None = Unit {0}

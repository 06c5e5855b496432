-- The index that the check of a table leaves. Definitions only.
--     ItemsIndexed s at all os n r   where all records from the offset at on are checked, os is the index over them, with n entries
--     RecordIndex s h os n           os is the index over the records of the table s, of shape h, with n entries
--     TableIndexed s os n r          where the check answers a table, os is the index over its records, with n entries
-- Assumes nothing.
use Rattle.std.specs.Prelude.{List, ℕ, Result, Ok, Err}
use Rattle.fields.specs.Fields.{le_at}
use Rattle.table.specs.declared.shape.Shape.{Shape}
use Rattle.table.specs.Index.{IndexIf}
use Rattle.table.specs.declared.shape.TableRefusal.{TableRefusal}

unfoldable pub ItemsIndexed : List ℕ → ℕ → ℕ → List ℕ → ℕ → Result ℕ TableRefusal → Type 0
ItemsIndexed s at all os n (Ok next) = IndexIf s at all os n
ItemsIndexed s at all os n (Err r) = Unit {0}

-- the table begins with the count of its records
abbrev pub RecordIndex : List ℕ → Shape → List ℕ → ℕ → Type 0
RecordIndex s h os n = IndexIf s h.records (le_at s 0 2) os n

unfoldable pub TableIndexed : List ℕ → List ℕ → ℕ → Result Shape TableRefusal → Type 0
TableIndexed s os n (Ok h) = RecordIndex s h os n
TableIndexed s os n (Err r) = Unit {0}

-- What a look at a field answers. Definitions only.
--     look_field r      the answer r as a field whose value is whether what it holds is legal
--     from_least k n    n is from k to TOP
-- Assumes nothing.
use Rattle.std.specs.Prelude.{ℕ, Bool, ◌&&◌, leb, Option, Some, None}
use Rattle.whole.specs.Whole.{TOP}
use Rattle.table.specs.Layout as Layout
use Rattle.table.specs.Layout.{Field, Is}

abbrev pub look_field : Option (Bool × ℕ) → Field Bool
look_field (Some (b, next)) = Is b next
look_field None = Layout.Fault

abbrev pub from_least : ℕ → ℕ → Bool
from_least k n = leb k n && leb n TOP

-- What few tests tell of the code point, the map and the numbers of a record (01, "Record"). Definitions only.
--     Head least c m    c is a legal code point, and bits 0 to 5 of the map m say: rom, value, base and script, and no other field
--     Digit t x v       where the type's first byte t is that of "digit", a value v of 0 to 9 has the rom of one digit that x says: its length 1, and the digit
--     Numbers t x v b   the value v and the base b are legal, and so is the rom by its first two bytes x and the type's first byte t
-- Assumes nothing.
use Rattle.std.specs.Prelude.{◌≡◌, true, ℕ, ◌+◌, ◌*◌, ◌%◌, ◌≤◌, ◌<◌}
use Rattle.whole.specs.Whole.{TOP}
use Rattle.table.specs.Check.{legal_code_point}

pub record Head (least c m : ℕ) : Type 0 where
  pub fields : m % 64 ≡ 43
  pub map : m < 128
  pub code : legal_code_point least c ≡ true

abbrev pub Digit : ℕ → ℕ → ℕ → Type 0
Digit t x v = t ≡ 100 → v ≤ 9 → x ≡ 0x3001 + 256 * v

pub record Numbers (t x v b : ℕ) : Type 0 where
  pub small : v ≤ TOP
  pub positive : 0 < b
  pub base_small : b ≤ TOP
  pub digit : Digit t x v

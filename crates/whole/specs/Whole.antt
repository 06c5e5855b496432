-- The f64 of a whole number (01: "Products and sums are f64; on this domain they're exact"). Definitions only.
--     TOP          01's largest value, 2 ^ 53 - 1
--     of_nat n      the f64 of n, rounded as IEEE 754 says where n has none of its own; up to TOP every n has (`proofs/WholeLaws.antt`)
-- Assumes nothing.
use Rattle.std.specs.Prelude.{ℕ, pos, Float}
use Rattle.std.specs.Float.{binary64}
use Rattle.std.specs.Float.Ieee.{of_int}

abbrev pub TOP : ℕ
TOP = 9007199254740991

unfoldable pub of_nat : ℕ → Float
of_nat n = of_int binary64 (pos n)

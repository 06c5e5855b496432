-- The f64 of a written decimal (02, S-13). Definitions only.
--     quotient n k    the f64 of the digits n divided by the f64 of 10 ^ k
-- Assumes nothing.
use Rattle.std.specs.Prelude.{ℕ, ◌^◌, Float}
use Rattle.std.specs.Float.{binary64}
use Rattle.std.specs.Float.Ieee.{div}
use Rattle.whole.specs.Whole.{of_nat}

-- "The value is the digits without the point, at most TOP, divided in f64 by the power of ten."
unfoldable pub quotient : ℕ → ℕ → Float
quotient n k = div binary64 (of_nat n) (of_nat (10 ^ k))

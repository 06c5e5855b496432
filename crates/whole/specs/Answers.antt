-- What the functions of `whole` answer, case by case. Definitions only.
--     value n     a product or a sum n: the f64 of n, or that it is above TOP
--     above_top   that a number is above TOP
-- Assumes nothing.
use Rattle.std.specs.Prelude.{Float, ℕ, cond, nat_lt, Result, Ok, Err}
use Rattle.whole.specs.Whole.{TOP, of_nat}
use Rattle.whole.specs.declared.AboveTop.{AboveTop}

abbrev pub above_top : AboveTop
above_top = record {}

abbrev pub value : ℕ → Result Float AboveTop
value n = cond (nat_lt TOP n) (Err above_top) (Ok (of_nat n))

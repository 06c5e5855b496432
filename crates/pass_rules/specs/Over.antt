-- What the value over two edges answers. Definitions only.
--     over_answer fits n   the number n as an f64, or that it is above TOP; that the two stay apart, where their decimals do not fit
-- Assumes nothing.
use Rattle.std.specs.Prelude.{Float, Bool, cond, ℕ, ltb, Option, Some, None, Result, Ok, Err}
use Rattle.whole.specs.Whole.{TOP, of_nat}
use Rattle.whole.specs.Answers.{above_top}
use Rattle.whole.specs.declared.AboveTop.{AboveTop}

abbrev pub over_answer : Bool → ℕ → Result (Option Float) AboveTop
over_answer fits n = cond fits (cond (ltb TOP n) (Err above_top) (Ok (Some (of_nat n)))) (Ok None)

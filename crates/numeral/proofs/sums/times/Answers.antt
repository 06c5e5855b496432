-- `numeral::sums::times` meets its contract: two small factors, or by the quotient that the code compares with. Assumes nothing.
use native.Mathlib.Omega.{arith}
use Rattle.numeral.proofs.SumLaws.{times_zero, times_small, times_above, times_within}
use Rattle.numeral.proofs.sums.times.Goals as goal

pub overflow_mul-result : goal.overflow_mul-result
overflow_mul-result c = let l = times_small c.args.a c.args.b _ _ c.if-a-b.true (omega arith) (omega arith) in omega arith

pub returns-then-a-b : goal.returns-then-a-b
returns-then-a-b c = let l = times_small c.args.a c.args.b _ _ c.if-a-b.true (omega arith) (omega arith) in omega arith

pub returns-then-b-eq0 : goal.returns-then-b-eq0
returns-then-b-eq0 c = times_zero _ _ c.if-b-eq0.true

pub returns-then-a-b-2 : goal.returns-then-a-b-2
returns-then-a-b-2 c = times_above _ _ c.if-b-eq0.false (omega (arith, c.if-a-b-2.true))

pub overflow_mul-result-2 : goal.overflow_mul-result-2
overflow_mul-result-2 c = let l = times_within _ _ c.if-b-eq0.false c.if-a-b-2.false in omega arith

pub returns : goal.returns
returns c = let l = times_within _ _ c.if-b-eq0.false c.if-a-b-2.false in omega arith

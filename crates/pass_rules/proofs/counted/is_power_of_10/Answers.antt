use native.Mathlib.Omega.{arith}
use Rattle.pass_rules.proofs.counted.PowerLaws.{divides_first, divides_again, divides_ends, power_zero}
use Rattle.pass_rules.proofs.counted.is_power_of_10.Goals as goal

pub returns-then-n-eq0 : goal.returns-then-n-eq0
returns-then-n-eq0 c = rw (c.if-n-eq0.true, power_zero)

pub loop-n-init : goal.loop-n-init
loop-n-init c = divides_first _ c.if-n-eq0.false

pub loop-n-smaller : goal.loop-n-smaller
loop-n-smaller c = omega (arith, c.loop-n.invariant.positive)

pub loop-n-preserved : goal.loop-n-preserved
loop-n-preserved c = divides_again _ _ c.loop-n.invariant c.loop-n-test.true

pub returns : goal.returns
returns c = divides_ends _ _ c.loop-n.invariant c.loop-n-test.false

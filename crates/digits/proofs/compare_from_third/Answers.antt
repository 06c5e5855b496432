use native.Mathlib.Omega.{arith}
use Rattle.digits.specs.Digits.{starts}
use Rattle.digits.proofs.DigitsLaws.{two_passed, one_more_lem, test_above, test_last}
use Rattle.digits.proofs.compare_from_third.Goals as goal

pub loop-n-init : goal.loop-n-init
loop-n-init c = two_passed _ (omega arith)

pub overflow_sub-past-then-c-starts : goal.overflow_sub-past-then-c-starts
unfolding starts
overflow_sub-past-then-c-starts c = (test_above _ c.loop-n.n c.loop-n.invariant c.loop-n-test.true c.if-c-starts.true (λ e. omega arith)).0

pub returns-then-c-starts : goal.returns-then-c-starts
unfolding starts
returns-then-c-starts c = (test_above _ c.loop-n.n c.loop-n.invariant c.loop-n-test.true c.if-c-starts.true (λ e. omega arith)).1

pub loop-n-preserved : goal.loop-n-preserved
unfolding starts
loop-n-preserved c = one_more_lem _ c.loop-n.n c.loop-n.invariant c.loop-n-test.true c.if-c-starts.false

pub overflow_sub-past-2 : goal.overflow_sub-past-2
unfolding starts
overflow_sub-past-2 c = (test_last _ c.loop-n.n c.loop-n.invariant (omega arith) c.loop-n-test.false).0

pub returns : goal.returns
unfolding starts
returns c = (test_last _ c.loop-n.n c.loop-n.invariant (omega arith) c.loop-n-test.false).1

-- `digits::is_digit_lem` meets its contract: the first start above c ends the count, and only the run before it can hold c. Assumes nothing.
use mathlib.Core.Path.{refl}
use native.Mathlib.Omega.{arith}
use Rattle.digits.specs.Digits.{starts}
use Rattle.digits.proofs.DigitsLaws.{none_passed, first_passed, test_first, test_above}
use Rattle.digits.proofs.is_digit.Goals as goal

pub returns-then-c : goal.returns-then-c
unfolding starts
returns-then-c c = test_first _ 0 (none_passed _) (omega arith) c.if-c.true refl

pub returns-then-c-2 : goal.returns-then-c-2
unfolding starts
returns-then-c-2 c = (test_above _ 1 (first_passed _ (omega arith)) (omega arith) c.if-c-2.true (λ e. omega arith)).1

-- `with_digit` meets its contract: where ten times the value is above TOP, so is the value with the digit. Assumes nothing.
use mathlib.Core.Path.{sym}
use Prim.Native.Nat.{◌*◌, ◌+◌}
use native.Mathlib.Omega.{arith}
use borrow.Author.Tests.{lt-ltb}
use Rattle.std.proofs.lemmas.Result.{err_from_is_err_and}
use Rattle.whole.specs.Whole.{TOP}
use Rattle.whole.proofs.AnswersLaws.{value_fits, value_above}
use Rattle.pass_rules.proofs.joined.ConstantLaws.{of_nat-ten}
use Rattle.pass_rules.proofs.joined.with_digit.Goals as goal

pub returns-in_err-tens : goal.returns-in_err-tens
returns-in_err-tens c m n h k p q =
    let v = value_above (10 * m) (sym (c.in_err-tens.ensures 10 m (omega arith) h of_nat-ten p)) in
    let w = err_from_is_err_and c.from_residual.result c.from_residual.ensures.1 in
    rw (w.1, lt-ltb TOP (10 * m + n) (omega arith))

pub returns : goal.returns
returns c m n h k p q =
    let v = value_fits (10 * m) (sym (c.in_ok-tens.ensures 10 m (omega arith) h of_nat-ten p)) in
    c.sum.ensures (10 * m) n v.0 k v.1 q

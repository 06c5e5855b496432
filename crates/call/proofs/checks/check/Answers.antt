-- `call::checks::check` meets its contract, by what the line's check answers. Assumes nothing.
use mathlib.Core.Path.{◌≡◌}
use Rattle.std.proofs.lemmas.Result.{err_from_is_err_and}
use Rattle.std.proofs.Common.{rules}
use Rattle.answers.specs.Answers.{of_line}
use Rattle.call.specs.Checks.{CallCheckIndexed}
use Rattle.call.proofs.MapLaws.{mapped_err, mapped_ok}
use Rattle.call.proofs.checks.CheckLaws.{lent_refused, lent_chars}
use Rattle.call.proofs.checks.check.Goals as goal

pub returns-in_err-chars : goal.returns-in_err-chars
unfolding CallCheckIndexed
returns-in_err-chars c =
    let p = err_from_is_err_and c.from_residual.result c.from_residual.ensures.1 in
    let e = mapped_err c.check_line.result _ _ c.in_err-chars.ensures.cases in
    let made : c.in_err-chars.field-0.0 ≡ of_line e.0 = let k = e.2 in search rules in
    rw (p.1, p.2, made) (record { call_check_is = lent_refused _ _ _ c.check_line.ensures.is e.0 e.1; indexed = tt })

pub returns-clause-call_check_is : goal.returns-clause-call_check_is
returns-clause-call_check_is c = lent_chars _ _ _ c.check_line.ensures.is (mapped_ok _ c.check_line.result _ c.in_ok-chars.ensures.cases) _ c.check_rest.ensures.rest_is

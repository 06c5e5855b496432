-- `record_check::number::ratio_look` meets its contract: the numerator, then the denominator.
use mathlib.Core.Path.{sym}
use Rattle.table.specs.Layout.{number, optional}
use Rattle.table.specs.Check.{all_of}
use Rattle.record_check.specs.Look.{from_least}
use Rattle.record_check.proofs.number.LookLaws.{Looked, looked, look_fault, numerator_fault, denominator_fault, ratio_is}
use Rattle.record_check.proofs.number.ratio_look.Goals as goal

pub returns-in_err-numerator : goal.returns-in_err-numerator
returns-in_err-numerator c = rw (c.from_residual.ensures) (numerator_fault _ _ _ (look_fault (all_of (from_least 0)) _ (sym c.in_err-numerator.ensures)))

pub returns-in_err-denominator : goal.returns-in_err-denominator
returns-in_err-denominator c =
    let first : let a = c.args in Looked (all_of (from_least 0)) (optional a.there (number 8) a.s.now a.at) c.in_ok-numerator.numerator c.in_ok-numerator.denominator_at = looked (all_of (from_least 0)) _ (sym c.in_ok-numerator.ensures) in
    rw (c.from_residual-in_err-denominator.ensures) (denominator_fault _ _ _ first (look_fault (all_of (from_least 1)) _ (sym c.in_err-denominator.ensures)))

pub returns : goal.returns
returns c =
    let first : let a = c.args in Looked (all_of (from_least 0)) (optional a.there (number 8) a.s.now a.at) c.in_ok-numerator.numerator c.in_ok-numerator.denominator_at = looked (all_of (from_least 0)) _ (sym c.in_ok-numerator.ensures) in
    ratio_is _ _ _ first (looked (all_of (from_least 1)) _ (sym c.in_ok-denominator.ensures))

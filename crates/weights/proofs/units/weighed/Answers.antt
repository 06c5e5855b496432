-- `weights::units::weighed` meets its contract, case by case. Assumes nothing.
use Rattle.weights.proofs.UnitLaws.{not_digit}
use Rattle.weights.proofs.units.weighed.Goals as goal

pub returns-in_default : goal.returns-in_default
returns-in_default c = not_digit _ c.in_default.not-Digit

-- `weights::units::Units::before` meets its contract, case by case. Assumes nothing.
use Rattle.weights.proofs.UnitLaws.{before_digit, before_ten, before_large}
use Rattle.weights.proofs.units.Units.before.Goals as goal

pub returns-in-Digit : goal.returns-in-Digit
returns-in-Digit c = before_digit _ _ c.in-Digit.is c.times.ensures

pub returns-in-Ten : goal.returns-in-Ten
returns-in-Ten c = before_ten _ _ c.in-Ten.is c.times-in-Ten.ensures

pub returns-in-Large : goal.returns-in-Large
returns-in-Large c = before_large _ _ c.in-Large.is

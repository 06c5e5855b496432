-- `weights::units::unit_of_two` meets its contract: no lone digit, or one behind 万, 億 or 兆 or another character. Assumes nothing.
use Rattle.weights.proofs.UnitLaws.{not_large}
use Rattle.weights.proofs.units.unit_of_two.Goals as goal

pub returns-in_default : goal.returns-in_default
returns-in_default c = rw (← c.if-not-weighed.ensures) (not_large _ c.in_default.not-Large)

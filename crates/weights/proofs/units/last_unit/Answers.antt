-- `weights::units::last_unit` meets its contract: fewer than two characters, or the last two. Assumes nothing.
use mathlib.Core.Path.{◌∙◌}
use native.Mathlib.Omega.{arith}
use Rattle.weights.proofs.LineLaws.{short_unit, two_unit}
use Rattle.weights.proofs.units.last_unit.Goals as goal

pub returns-then-line : goal.returns-then-line
returns-then-line c = λ w e. short_unit w e (omega (arith, c.if-line.true))

pub returns : goal.returns
returns c = λ w e. c.unit_of_two.ensures ∙ two_unit w e (omega (arith, c.if-line.false)) c.glyph_at-first.ensures c.glyph_at-last.ensures

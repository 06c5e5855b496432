-- `characters::fraction::fraction_of` meets its contract, by whether the record has a fraction. Assumes nothing.
use mathlib.Core.Path.{ap, ◌∙◌}
use mathlib.Core.Option.{some}
use Rattle.characters.proofs.fraction.FractionLaws.{fraction_absent, fraction_there}
use Rattle.characters.proofs.fraction.fraction_of.Goals as goal

pub lowest-requires : goal.lowest-requires
lowest-requires c = c.requires c.if-prop-eq1.true

pub returns-then-prop-eq1 : goal.returns-then-prop-eq1
returns-then-prop-eq1 c = ap some c.lowest.ensures ∙ fraction_there c.args.prop c.if-prop-eq1.true

pub returns : goal.returns
returns c = fraction_absent c.args.prop c.if-prop-eq1.false

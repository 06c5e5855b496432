-- `fraction_choices::decision::between` meets its contract where both neighbours are there. Assumes nothing.
use Rattle.fraction_choices.proofs.decision.DecisionLaws.{between_both}
use Rattle.fraction_choices.proofs.decision.between.Goals as goal

pub returns : goal.returns
returns c = λ es k. let a = c.args in between_both es a.percent a.other a.left a.right c.if-left-eq0.false c.if-right-eq0.false (c.whole_value-u.ensures es k) (c.whole_value-v.ensures es k) c.with_values.ensures

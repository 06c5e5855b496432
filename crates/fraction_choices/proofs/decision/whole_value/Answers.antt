-- `fraction_choices::decision::whole_value` meets its contract: the edge is read where it stands. Assumes nothing.
use mathlib.Core.Path.{ap, ◌∙◌}
use Rattle.numbers.specs.Listed.{whole_value}
use Rattle.fraction_choices.proofs.decision.NeighborLaws.{keeps_edge, keeps_inside, keeps_valued}
use Rattle.fraction_choices.proofs.decision.whole_value.Goals as goal

pub whole_value_at-requires : goal.whole_value_at-requires
whole_value_at-requires c = let k = c.requires.0.1 in let o = c.offset_at-at.ensures _ k.holds in (keeps_inside k c.requires.1 o, keeps_valued k c.requires.1 o)

pub returns : goal.returns
returns c = λ es k. c.whole_value_at.ensures ∙ ap whole_value (keeps_edge k c.requires.1 (c.offset_at-at.ensures es k.holds))

-- `fraction_choices::decision::is_numeric` meets its contract: bit 0 of the map. Assumes nothing.
use mathlib.Core.Path.{ap, ◌∙◌}
use native.Mathlib.Omega.{arith}
use Rattle.numbers.specs.Fractions.{is_numeric}
use Rattle.fraction_choices.proofs.decision.NeighborLaws.{keeps_edge, keeps_ten}
use Rattle.fraction_choices.proofs.decision.ValueLaws.{numeric_at_lem}
use Rattle.fraction_choices.proofs.decision.is_numeric.Goals as goal

pub u16_at-requires : goal.u16_at-requires
u16_at-requires c = let k = c.requires.0.1 in let h = keeps_ten k c.requires.1 (c.offset_at-at.ensures _ k.holds) in omega arith

pub returns : goal.returns
returns c = λ es k. numeric_at_lem _ _ c.u16_at.ensures c.bit.ensures ∙ ap is_numeric (keeps_edge k c.requires.1 (c.offset_at-at.ensures es k.holds))

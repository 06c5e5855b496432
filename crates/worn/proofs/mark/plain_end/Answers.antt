use mathlib.Core.Path.{sym, ◌∙◌}
use native.Mathlib.Omega.{arith}
use Rattle.worn.proofs.MarkLaws.{plain_start, plain_room, plain_next}
use Rattle.worn.proofs.mark.plain_end.Goals as goal

pub loop-at-init : goal.loop-at-init
loop-at-init c = plain_start _ _ c.requires

pub loop-at-smaller : goal.loop-at-smaller
loop-at-smaller c = omega (arith, plain_room _ _ _ c.loop-at.invariant (sym c.is_plain.ensures ∙ c.loop-at-test.true))

pub loop-at-preserved : goal.loop-at-preserved
loop-at-preserved c = plain_next _ _ _ c.loop-at.invariant (sym c.is_plain.ensures ∙ c.loop-at-test.true)

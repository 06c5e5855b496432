use mathlib.Core.Path.{sym, ◌∙◌}
use native.Mathlib.Omega.{arith}
use Rattle.fields.specs.Part.{part}
use Rattle.record_check.proofs.texts.RestLaws.{rest_start, rest_more, rest_all}
use Rattle.record_check.proofs.texts.any_formed.Goals as goal

pub loop-at-init : goal.loop-at-init
loop-at-init c = rest_start _ _ _ c.requires.0

pub sequence_end-requires : goal.sequence_end-requires
sequence_end-requires c = (c.loop-at-test.true, c.requires.1)

pub returns-in_default : goal.returns-in_default
unfolding part
returns-in_default c = c.well_formed-in_default.ensures ∙ sym c.loop-at.invariant.same

pub loop-at-smaller : goal.loop-at-smaller
loop-at-smaller c = omega (arith, c.in-Some.ensures.0, c.in-Some.ensures.1.before)

pub loop-at-preserved : goal.loop-at-preserved
loop-at-preserved c = rest_more _ _ _ _ c.loop-at.invariant c.in-Some.ensures.1

pub returns : goal.returns
returns c = sym (rest_all _ _ _ _ c.loop-at.invariant c.loop-at-test.false)

-- `record_check::texts::sequence_end` meets its contract: the bytes that are told are a character's, or nothing is told.
use native.Mathlib.Omega.{arith}
use Rattle.record_check.proofs.texts.RestLaws.{rest_one, rest_two, rest_three}
use Rattle.record_check.proofs.texts.sequence_end.Goals as goal

pub returns-then-b-lt128 : goal.returns-then-b-lt128
returns-then-b-lt128 c = (omega arith, rest_one _ _ _ c.requires.1 c.requires.0 (omega arith))

pub returns-then-trail_at : goal.returns-then-trail_at
returns-then-trail_at c = (omega arith, rest_three _ _ _ c.requires.1 c.if-b.true (c.trail_at.ensures c.if-not-trail_at.false) (c.trail_at-then-b.ensures c.if-trail_at.true))

pub returns-then-b-2 : goal.returns-then-b-2
returns-then-b-2 c = (omega arith, rest_two _ _ _ c.requires.1 c.if-b-2.true (c.trail_at.ensures c.if-not-trail_at.false))

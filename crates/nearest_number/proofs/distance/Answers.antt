-- `nearest_number::distance` meets its contract: the span is behind the place, before it, or around it. Assumes nothing.
use Rattle.nearest_number.proofs.NearestLaws.{between_before, between_behind, between_within}
use Rattle.nearest_number.proofs.distance.Goals as goal

pub returns-then-place-start : goal.returns-then-place-start
returns-then-place-start c = between_before _ _ _ c.requires c.if-place-start.true

pub returns-then-end-place : goal.returns-then-end-place
returns-then-end-place c = between_behind _ _ _ c.requires c.if-place-start.false c.if-end-place.true

pub returns : goal.returns
returns c = between_within _ _ _ c.requires c.if-place-start.false c.if-end-place.false

-- `nearest_number::replaces_held` meets its contract: an edge that is no number never does, a first one always, another where it comes before the one held.
-- Assumes nothing.
use Rattle.std.proofs.Common.{ap, not}
use Rattle.edge.proofs.CheckLaws.{head_within}
use Rattle.nearest_number.proofs.NearestLaws.{stays_no_number, replaces_nothing, replaces_later}
use Rattle.nearest_number.proofs.replaces_held.Goals as goal

pub is_number-requires : goal.is_number-requires
is_number-requires c = head_within _ _ _ c.requires.0.whole

pub returns-then-not-is_number : goal.returns-then-not-is_number
returns-then-not-is_number c = stays_no_number _ _ _ c.args.held c.is_number.ensures (ap not c.if-not-is_number.true)

pub returns-in-None : goal.returns-in-None
returns-in-None c = replaces_nothing _ _ _ _ c.is_number.ensures (ap not c.if-not-is_number.false) c.in-None.is

pub returns-in-Some : goal.returns-in-Some
returns-in-Some c = replaces_later _ _ _ _ c.is_number.ensures (ap not c.if-not-is_number.false) c.in-Some.is c.comes_first.ensures

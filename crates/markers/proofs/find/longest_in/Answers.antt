use Rattle.markers.proofs.MarkLaws.{longest_turn, longest_ends}
use Rattle.markers.proofs.find.longest_in.Goals as goal

pub loop-marker-preserved : goal.loop-marker-preserved
loop-marker-preserved c = (tt, tt, longest_turn _ _ _ _ c.loop-marker.invariant.2 c.in-Some.ensures.steps c.size_at.ensures c.max-best.ensures)

pub returns : goal.returns
returns c = longest_ends _ _ _ _ c.loop-marker.invariant.2 c.in-None.ensures.steps.0

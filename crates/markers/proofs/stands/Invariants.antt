-- `markers::stands` meets its contract. The loop's invariant: what is left of the line and of the bytes m says whether they stand. The measure is what is left of m. Assumes nothing.
use Prim.Native.Nat.{◌-◌}
use lib.ListN.{length}
use Rattle.markers.proofs.FoldedBytesLaws.{Walk}
use Rattle.markers.proofs.stands.Given as goal

abbrev pub invariant-loop-next : goal.invariant-loop-next
invariant-loop-next l = Walk l.line l.at l.marker l.here l.next

abbrev pub decreases-loop-next : goal.decreases-loop-next
decreases-loop-next l = length l.marker - l.next

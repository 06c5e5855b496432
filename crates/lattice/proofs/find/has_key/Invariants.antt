-- `lattice::find::has_key` meets its contract. The loop's invariant: `edge` is the last of the bucket among the edges that are left, and those passed are others.
-- The measure is `edge`. Assumes nothing.
use Prim.Native.Nat.{◌≤◌}
use Rattle.lattice.specs.Kept.{Search}
use Rattle.lattice.proofs.find.BucketLaws.{Searching}
use Rattle.lattice.proofs.find.has_key.Given as goal

abbrev pub invariant-loop-edge : goal.invariant-loop-edge
invariant-loop-edge l = (l.edge ≤ 1024) × ((q : Search l.work l.source l.at l.size l.bucket) → Searching q.es q.e q.count l.edge)

abbrev pub decreases-loop-edge : goal.decreases-loop-edge
decreases-loop-edge l = l.edge

-- `queries::path::right_neighbors` meets its contract. The loop's invariant: for each place what is kept and the edges that are left have its right neighbour
-- (`Table`). Assumes nothing.
use Prim.Native.Nat.{◌-◌}
use Rattle.paths.proofs.TableLaws.{Table}
use Rattle.queries.proofs.path.right_neighbors.Given as goal

abbrev pub invariant-loop : goal.invariant-loop
invariant-loop l = Table l.skip l.s l.count l.at (l.count - l.counter) l.right.tops l.right.ats

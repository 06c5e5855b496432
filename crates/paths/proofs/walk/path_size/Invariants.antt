-- `paths::walk::path_size` meets its contract. The loop's invariant: what is counted and the path that is left are the whole path (`Sized`). The measure is
-- the places up to the end. Assumes nothing.
use Prim.Native.Nat.{◌-◌}
use Rattle.paths.specs.Path.{path}
use Rattle.paths.specs.Table.{by_table}
use Rattle.paths.proofs.PathLaws.{Sized}
use Rattle.paths.proofs.walk.path_size.Given as goal

abbrev pub invariant-loop-p : goal.invariant-loop-p
invariant-loop-p l = Sized l.s (by_table l.s l.right.tops l.right.ats) (path (by_table l.s l.right.tops l.right.ats) l.initial.p l.last) l.room l.last l.p l.n l.len

abbrev pub decreases-loop-p : goal.decreases-loop-p
decreases-loop-p l = l.last - l.p

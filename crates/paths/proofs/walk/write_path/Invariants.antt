-- `paths::walk::write_path` meets its contract. The loop's invariant: what is stored and the path that is left are the whole path (`Copied`). The measure is
-- the places up to the end. Assumes nothing.
use Prim.Native.Nat.{◌-◌}
use Rattle.paths.specs.Path.{path}
use Rattle.paths.specs.Table.{by_table}
use Rattle.paths.proofs.PathLaws.{Copied}
use Rattle.paths.proofs.walk.write_path.Given as goal

abbrev pub invariant-loop-p : goal.invariant-loop-p
invariant-loop-p l = Copied l.s (by_table l.s l.right.tops l.right.ats) (path (by_table l.s l.right.tops l.right.ats) l.initial.p l.last) l.last l.initial.out l.out l.p l.at

abbrev pub decreases-loop-p : goal.decreases-loop-p
decreases-loop-p l = l.last - l.p

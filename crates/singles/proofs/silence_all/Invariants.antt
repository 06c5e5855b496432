-- `singles::silence_all` meets its contract. The loop's invariant: the first i edges were looked at (`Walked`). Assumes nothing.
use Rattle.singles.proofs.StageLaws.{Walked}
use Rattle.singles.proofs.silence_all.Given as goal

abbrev pub invariant-loop-i : goal.invariant-loop-i
invariant-loop-i l = Walked l.initial.work l.lattice l.marks l.work l.i

-- `singles::mark_all_barred` meets its contract. The loop's invariant: with the edges from the i-th on, the marks are those of the whole list (`BarredMarks`). Assumes nothing.
use lib.ListN.{drop}
use Rattle.lattice.specs.Kept.{END}
use Rattle.singles.proofs.BarredLaws.{BarredMarks}
use Rattle.singles.proofs.mark_all_barred.Given as goal

abbrev pub invariant-loop-i : goal.invariant-loop-i
invariant-loop-i l = BarredMarks l.line (drop END l.work) l.count l.i l.marks

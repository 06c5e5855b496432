-- `marks::mark_all` meets its contract. The loop's invariant: with the edges from the i-th on, the marks are those of all edges (`Marking`), whatever test and place the
-- function answers by. Assumes nothing.
use mathlib.Core.Bool.{Bool}
use Prim.Native.Nat.{ℕ}
use Rattle.edge.specs.Edge.{Edge}
use Rattle.numbers.proofs.stages.MarkLaws.{Marking}
use Rattle.marks.specs.Marked.{Asks}
use Rattle.marks.proofs.mark_all.Given as goal

abbrev pub invariant-loop-i : goal.invariant-loop-i
invariant-loop-i g l = (test : Edge → Bool) (place : Edge → ℕ) → Asks (goal.F-post g l.place_of) test place l.work → Marking test place l.work l.lattice l.i l.marks

-- `separators::set_all_apart` meets its contract. The loop's invariant: with the edges from the i-th on set apart, the lattice is what it shall be (`Setting`).
-- Assumes nothing.
use Rattle.separators.proofs.StepLaws.{Setting}
use Rattle.separators.proofs.set_all_apart.Given as goal

abbrev pub invariant-loop-i : goal.invariant-loop-i
invariant-loop-i l = Setting l.initial.work l.initial.grown l.marks l.i-end l.work l.grown l.i

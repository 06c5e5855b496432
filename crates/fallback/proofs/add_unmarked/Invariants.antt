-- `fallback::add_unmarked` meets its contract. The loop's invariant: with the characters from its place on, the lattice is what it shall be (`Walking`). Assumes nothing.
use Rattle.fallback.proofs.DigitLaws.{Walking}
use Rattle.fallback.proofs.add_unmarked.Given as goal

abbrev pub invariant-loop-place : goal.invariant-loop-place
invariant-loop-place l = Walking l.initial.work l.initial.grown l.line l.marks l.work l.grown l.place

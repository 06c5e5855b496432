-- `first_stages::five_passes::five_passes` meets its contract. The loop's invariant: with the passes that are left, the lattice and the list are what they shall be (`Going`).
-- Assumes nothing.
use Rattle.text.specs.Text.{chars}
use Rattle.first_stages.proofs.five_passes.FiveLaws.{Going}
use Rattle.first_stages.proofs.five_passes.five_passes.Given as goal

abbrev pub invariant-loop-i : goal.invariant-loop-i
invariant-loop-i l = Going (chars l.line) l.table l.initial.work l.initial.grown l.stored l.work l.grown l.count l.i

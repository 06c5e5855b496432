-- `fractions::add_all` meets its contract. The loop's invariant: what the places before p make is added (`Grown`). The measure is what is left.
-- Assumes nothing.
use Prim.Native.Nat.{◌-◌}
use Rattle.fractions.proofs.OutcomesLaws.{Grown}
use Rattle.fractions.proofs.add_all.Given as goal

abbrev pub invariant-loop-p : goal.invariant-loop-p
invariant-loop-p l = Grown l.initial.work l.initial.grown l.choices l.places l.work l.grown l.p

abbrev pub decreases-loop-p : goal.decreases-loop-p
decreases-loop-p l = l.places - l.p

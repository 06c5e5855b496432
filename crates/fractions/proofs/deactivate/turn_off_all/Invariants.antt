-- `fractions::deactivate::turn_off_all` meets its contract. The loop's invariant: what the places before p use is inactive (`Turned`). The measure is what is left.
-- Assumes nothing.
use Prim.Native.Nat.{◌-◌}
use Rattle.fractions.proofs.deactivate.TurnedLaws.{Turned}
use Rattle.fractions.proofs.deactivate.turn_off_all.Given as goal

abbrev pub invariant-loop-p : goal.invariant-loop-p
invariant-loop-p l = Turned l.initial.work l.lattice l.choices l.places l.work l.p

abbrev pub decreases-loop-p : goal.decreases-loop-p
decreases-loop-p l = l.places - l.p

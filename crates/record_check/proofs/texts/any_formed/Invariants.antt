-- `record_check::texts::any_formed` meets its contract. The loop's invariant: what is left decides. The measure is how much is left.
use Prim.Native.Nat.{◌-◌}
use Rattle.record_check.specs.Rest.{Rest}
use Rattle.record_check.proofs.texts.any_formed.Given as goal

abbrev pub invariant-loop-at : goal.invariant-loop-at
invariant-loop-at l = Rest l.s l.from l.end l.at

abbrev pub decreases-loop-at : goal.decreases-loop-at
decreases-loop-at l = l.end - l.at

-- `writing_vectors::powers_of_ten` is safe and ends: p is at least 1 and at most 10,000,000,000,000,000, and the measure is what is left of it. Assumes nothing.
use Prim.Native.Nat.{◌-◌, ◌≤◌}
use Rattle.writing_vectors.proofs.powers_of_ten.Given as goal

abbrev pub invariant-loop-p : goal.invariant-loop-p
invariant-loop-p l = (1 ≤ l.p) × (l.p ≤ 10000000000000000)

abbrev pub decreases-loop-p : goal.decreases-loop-p
decreases-loop-p l = 10000000000000000 - l.p

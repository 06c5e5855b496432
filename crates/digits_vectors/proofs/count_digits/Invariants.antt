-- `digits_vectors::count_digits` is safe and ends: at most one for each code point passed. Assumes nothing.
use Prim.Native.Nat.{◌≤◌}
use Rattle.digits_vectors.proofs.count_digits.Given as goal

abbrev pub invariant-loop-c : goal.invariant-loop-c
invariant-loop-c l = l.n ≤ l.c

-- `digits_vectors::count_compared` is safe and ends: at most 68 starts for each code point passed. Assumes nothing.
use Prim.Native.Nat.{◌*◌, ◌≤◌}
use Rattle.digits_vectors.proofs.count_compared.Given as goal

abbrev pub invariant-loop-c : goal.invariant-loop-c
invariant-loop-c l = l.n ≤ 68 * l.c

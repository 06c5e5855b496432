-- `line_vectors::print_all` is safe and ends. The loop's invariant: the number of the line is at most one more than where it begins. The measure is what is left of the text.
use Prim.Native.Nat.{◌+◌, ◌-◌, ◌≤◌}
use lib.ListN.{length}
use Rattle.line_vectors.proofs.print_all.Given as goal

abbrev pub invariant-loop-from : goal.invariant-loop-from
invariant-loop-from g l = l.k ≤ l.from + 1

abbrev pub decreases-loop-from : goal.decreases-loop-from
decreases-loop-from g l = length l.s - l.from

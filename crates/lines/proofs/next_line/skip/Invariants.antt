-- `lines::next_line::skip` meets its contract. The loop's invariant: no newline was skipped. The measure is what is left of the bytes. Assumes nothing.
use Prim.Native.Nat.{◌-◌, ◌≤◌}
use lib.ListN.{length}
use Rattle.lines.specs.Lines.{NoNewline}
use Rattle.lines.proofs.next_line.skip.Given as goal

abbrev pub invariant-loop-i : goal.invariant-loop-i
invariant-loop-i l = (l.at ≤ l.i) × (l.i ≤ length l.lines) × NoNewline l.lines l.at l.i

abbrev pub decreases-loop-i : goal.decreases-loop-i
decreases-loop-i l = length l.lines - l.i

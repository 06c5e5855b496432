-- `print_line::read::read_line` meets its contract. The loop's invariant: the n bytes that were read are on a line. The measure is the room that is left: a read that goes on puts
-- a byte at least. Assumes nothing.
use mathlib.Core.Path.{◌≡◌}
use Prim.Native.Nat.{◌-◌, ◌≤◌}
use lib.ListN.{length, take}
use Rattle.print_line.specs.Line.{OnALine}
use Rattle.print_line.proofs.read.read_line.Given as goal

abbrev pub invariant-loop-n : goal.invariant-loop-n
invariant-loop-n g l = (l.n ≤ length l.buf) × (length l.buf ≡ length l.initial.buf) × OnALine (take l.n l.buf)

abbrev pub decreases-loop-n : goal.decreases-loop-n
decreases-loop-n g l = length l.initial.buf - l.n

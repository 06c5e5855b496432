-- `worn::mark::plain_end` meets its contract. The loop's invariant: up to the offset there are characters of the plain table alone. The measure is what is left of the
-- line. Assumes nothing.
use Prim.Native.Nat.{◌-◌}
use lib.ListN.{length}
use Rattle.worn.proofs.MarkLaws.{PlainSo}
use Rattle.worn.proofs.mark.plain_end.Given as goal

abbrev pub invariant-loop-at : goal.invariant-loop-at
invariant-loop-at l = PlainSo l.line l.from l.at

abbrev pub decreases-loop-at : goal.decreases-loop-at
decreases-loop-at l = length l.line - l.at

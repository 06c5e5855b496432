-- `lines::fill` meets its contract. The loop's invariant: the entries so far are put, and with those that still fit they are all. The measure is how many bytes of the lines are
-- left. Assumes nothing.
use Prim.Native.Nat.{◌-◌}
use mathlib.Core.Path.{◌≡◌}
use lib.ListN.{length}
use Rattle.lines.proofs.FillLaws.{Filling}
use Rattle.lines.proofs.fill.Given as goal

abbrev pub invariant-loop-next : goal.invariant-loop-next
invariant-loop-next l = Filling l.table l.lines l.initial.out l.out l.at l.next × (length l.out ≡ length l.initial.out) × (length l.work ≡ length l.initial.work)

abbrev pub decreases-loop-next : goal.decreases-loop-next
decreases-loop-next l = length l.lines - l.next

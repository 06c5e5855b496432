-- `fields::copy::copy_in` meets its contract. The loop's invariant: i bytes of s are stored, and the length is as it was.
-- The mathematics of a turn is in `proofs/PartLaws.antt`. Assumes nothing.
use mathlib.Core.Path.{◌≡◌}
use lib.ListN.{length, take}
use lib.Seq.{sets}
use Rattle.fields.proofs.copy.copy_in.Given as goal

abbrev pub invariant-loop-i : goal.invariant-loop-i
invariant-loop-i l = (length l.out ≡ length l.initial.out) × (l.out ≡ sets l.initial.out l.at (take l.i l.s))

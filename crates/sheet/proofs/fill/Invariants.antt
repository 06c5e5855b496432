-- `sheet::fill` meets its contract. The loop's invariant: the rows so far are put, and with those that still fit they are all. Assumes nothing.
use mathlib.Core.Path.{◌≡◌}
use lib.ListN.{length}
use Rattle.sheet.proofs.FillLaws.{Filling}
use Rattle.sheet.proofs.fill.Given as goal

abbrev pub invariant-loop-index : goal.invariant-loop-index
invariant-loop-index l = Filling l.initial.out l.out l.from l.index l.at l.rows × (length l.buf ≡ 12) × (length l.out ≡ length l.initial.out)

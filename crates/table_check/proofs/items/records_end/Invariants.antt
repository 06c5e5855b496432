-- `table_check::items::records_end` meets its contract. The loop's invariant: the records that are left end where all of them end, and the index is being made.
use mathlib.Core.Path.{◌≡◌}
use Prim.Native.Nat.{◌-◌}
use lib.ListN.{length}
use Rattle.table.specs.Check.{read_records}
use Rattle.table.specs.Answers.{end_of}
use Rattle.table_check.proofs.items.StepLaws.{Making}
use Rattle.table_check.proofs.items.records_end.Given as goal

abbrev pub invariant-loop-i : goal.invariant-loop-i
invariant-loop-i l = (end_of (read_records (l.n - l.i) l.least l.s l.at) ≡ end_of (read_records l.n 0 l.s l.from)) × (Making l.s l.from l.n l.offs l.at (l.n - l.i) l.index) × (length l.offs ≡ 512)

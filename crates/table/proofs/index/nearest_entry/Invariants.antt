-- `nearest_entry` meets its contract. The loop's invariant: one may look for the character from `from` on. The measure is what is left of the index.
use Prim.Native.Nat.{◌-◌, ◌≤◌}
use Rattle.table.specs.Layout.{records_at}
use Rattle.table.specs.Index.{RecordsAhead}
use Rattle.table.proofs.index.nearest_entry.Given as goal

abbrev pub invariant-loop-lo : goal.invariant-loop-lo
invariant-loop-lo l = RecordsAhead l.table (records_at l.all.left l.table l.all.at) l.c l.from.at l.from.left × (l.lo ≤ l.hi) × (l.hi ≤ l.n)

abbrev pub decreases-loop-lo : goal.decreases-loop-lo
decreases-loop-lo l = l.hi - l.lo

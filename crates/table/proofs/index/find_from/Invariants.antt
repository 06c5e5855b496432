-- `find_from` meets its contract. The loop's invariant: among the records that are left the character has the record that it has among all, and they rise.
use Prim.Native.Nat.{◌-◌}
use Rattle.table.specs.Layout.{records_at}
use Rattle.table.specs.Index.{RecordsAhead}
use Rattle.table.proofs.index.find_from.Given as goal

abbrev pub invariant-loop : goal.invariant-loop
invariant-loop l = RecordsAhead l.table (records_at l.fn.from.left l.table l.fn.from.at) l.c l.at (l.fn.from.left - l.counter)

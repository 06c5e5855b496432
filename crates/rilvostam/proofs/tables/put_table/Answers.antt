-- `rilvostam::tables::put_table` meets its contract: the bytes are copied where they fit. Assumes nothing.
use Rattle.rilvostam.proofs.TablesLaws.{too_short, written}
use Rattle.rilvostam.proofs.tables.put_table.Goals as goal

pub returns-then-out-table : goal.returns-then-out-table
returns-then-out-table c = too_short c.args.table.now _ c.if-out-table.true

pub returns : goal.returns
returns c = written c.args.table.now _ _ c.if-out-table.false c.copy_in.ensures

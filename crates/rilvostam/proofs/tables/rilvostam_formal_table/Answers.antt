-- `rilvostam::tables::rilvostam_formal_table` meets its contract: the formal table is put, and the answer told to C. Assumes nothing.
use Rattle.rilvostam.proofs.TablesLaws.{exported}
use Rattle.rilvostam.proofs.tables.rilvostam_formal_table.Goals as goal

pub returns : goal.returns
returns c =
    let e = exported _ _ _ _ _ _ c.formal_table-table.ensures.bytes c.put_table.ensures c.answer_told-formal.ensures in
    record {
      status = e.0;
      place = e.1;
      output = e.2;
    }

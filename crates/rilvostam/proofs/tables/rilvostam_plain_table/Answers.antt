-- `rilvostam::tables::rilvostam_plain_table` meets its contract: the plain table is put, and the answer told to C. Assumes nothing.
use Rattle.rilvostam.proofs.TablesLaws.{exported}
use Rattle.rilvostam.proofs.tables.rilvostam_plain_table.Goals as goal

pub returns : goal.returns
returns c =
    let e = exported _ _ _ _ _ _ c.plain_table-table.ensures.bytes c.put_table.ensures c.answer_told-plain.ensures in
    record {
      status = e.0;
      place = e.1;
      output = e.2;
    }

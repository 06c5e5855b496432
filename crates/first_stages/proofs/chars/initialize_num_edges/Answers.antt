-- `first_stages::chars::initialize_num_edges` meets its contract: the table was checked, so that there are as many records as it says, and they rise; so they can be indexed.
-- The loop over the line does the rest. Assumes nothing.
use native.Mathlib.Omega.{arith}
use Rattle.table.specs.Index.{Indexed}
use Rattle.characters.specs.Initial.{records_in, Records}
use Rattle.characters.proofs.LegalLaws.{table_told_lem}
use Rattle.characters.proofs.InitialLaws.{said_records, records_whole}
use Rattle.first_stages.proofs.chars.FirstLaws.{first_done}
use Rattle.first_stages.proofs.chars.initialize_num_edges.Goals as goal

pub u16_at-count-requires : goal.u16_at-count-requires
u16_at-count-requires c = (table_told_lem _ c.requires.3.1.checked).long

pub points_count-marks-requires : goal.points_count-marks-requires
points_count-marks-requires c =
    let records : let a = c.args in Records a.table.now (record { at = a.shape.records; left = c.u16_at-count.result }) = said_records c.args.table.now c.args.shape c.requires.3.1.checked c.u16_at-count.ensures in
    let indexed : let a = c.args in Indexed a.table.now (records_in a.table.now (record { at = a.shape.records; left = c.u16_at-count.result })) a.index.now c.u16_at-count.result a.entries = rw (← c.u16_at-count.ensures) at c.requires.4 (records_whole _ _ (records)) in
    (records_whole _ _ records, indexed)

pub add_chars-requires : goal.add_chars-requires
add_chars-requires c =
    let records : let a = c.args in Records a.table.now (record { at = a.shape.records; left = c.u16_at-count.result }) = said_records c.args.table.now c.args.shape c.requires.3.1.checked c.u16_at-count.ensures in
    let indexed : let a = c.args in Indexed a.table.now (records_in a.table.now (record { at = a.shape.records; left = c.u16_at-count.result })) a.index.now c.u16_at-count.result a.entries = rw (← c.u16_at-count.ensures) at c.requires.4 (records_whole _ _ (records)) in
    let ready = c.requires.3.1 in
    (record { holds = c.requires.0; offsets = c.requires.1; few = omega (arith, ready.count, ready.few); long = c.requires.2 }, ready.formed, records, indexed)

pub returns : goal.returns
returns c =
    let a = c.args in
    first_done a.decimals a.line.now a.table.now a.shape c.requires.3.1 c.u16_at-count.ensures c.points_count-marks.result c.points_count-marks.ensures a.work.now a.lattice
    c.add_chars.new.work c.add_chars.result c.add_chars.ensures

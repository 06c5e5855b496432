-- `lattice::link::link` meets its contract: it stores three cells and the count. Assumes nothing.
use Rattle.lattice.proofs.link.LinkLaws.{linked_by}
use Rattle.lattice.proofs.link.link.Goals as goal

pub returns : goal.returns
returns c = linked_by _ _ _ _ c.u16_at-head.ensures c.put_cell.ensures c.put_cell-2.ensures c.put_cell-3.ensures c.put_u16.ensures

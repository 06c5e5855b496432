-- `table::filter::may_have` meets its contract.
use Rattle.table.specs.Filter.{mark}
use Rattle.table.proofs.filter.may_have.Goals as goal

pub returns : goal.returns
unfolding mark
returns c = rw (c.word_of-i.ensures, c.bit_of-k.ensures)

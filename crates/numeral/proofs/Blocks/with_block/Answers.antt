-- `Blocks::with_block` meets its contract, by that of `plus`.
use Rattle.numeral.proofs.Blocks.with_block.Goals as goal

pub returns : goal.returns
returns c = rw c.plus.ensures

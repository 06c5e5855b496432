-- `Blocks::ended` meets its contract: an empty line, or blocks.
use Rattle.numeral.proofs.StateLaws.{empty_ends, blocks_end}
use Rattle.numeral.proofs.Blocks.ended.Goals as goal

pub returns-then-self-eq0 : goal.returns-then-self-eq0
returns-then-self-eq0 c = empty_ends _ c.if-self-eq0.true

pub returns : goal.returns
returns c = blocks_end _ c.if-self-eq0.false

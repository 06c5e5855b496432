-- `numeral::read`: numeral, block and small call one another. The measure is twice what is left of the line, and one more for block, which calls numeral where
-- it stands.
use Rattle.std.proofs.Common.{◌+◌, ◌*◌, ◌-◌, length}
use Rattle.numeral.proofs.read.+block_numeral_small.Given as goal

abbrev pub decreases-block : goal.decreases-block
decreases-block l = 2 * (length l.line.now - l.at) + 1

abbrev pub decreases-numeral : goal.decreases-numeral
decreases-numeral l = 2 * (length l.line.now - l.at)

abbrev pub decreases-small : goal.decreases-small
decreases-small l = 2 * (length l.line.now - l.at)

-- `text::sequence::char_if` meets its contract, by its one test.
use Rattle.text.proofs.sequence.char_if.Goals as goal

pub returns-then-good : goal.returns-then-good
returns-then-good c = rw c.if-good.true

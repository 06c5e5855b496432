-- `fraction_choices::neighbors::side` meets its contract, by the side. Assumes nothing.
use Rattle.fraction_choices.proofs.neighbors.side.Goals as goal

pub returns-then-right : goal.returns-then-right
returns-then-right c = rw c.if-right.true

pub returns-else-right : goal.returns-else-right
returns-else-right c = rw c.if-right.false

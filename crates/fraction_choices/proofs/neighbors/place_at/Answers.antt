-- `fraction_choices::neighbors::place_at` meets its contract, by the side. Assumes nothing.
use Rattle.edge.specs.Layout.{edge_at}
use Rattle.fraction_choices.proofs.neighbors.place_at.Goals as goal

pub returns-then-right : goal.returns-then-right
unfolding edge_at
returns-then-right c = rw c.if-right.true c.u16_at.ensures

pub returns-else-right : goal.returns-else-right
unfolding edge_at
returns-else-right c = rw c.if-right.false c.u16_at-else-right.ensures

-- `walker::steps::here_at` meets its contract: whether the edge is whole decides. Assumes nothing.
use Rattle.walker.proofs.steps.WalkLaws.{whole_head, here_edge, here_end}
use Rattle.walker.proofs.steps.here_at.Goals as goal

pub edge_at-requires : goal.edge_at-requires
edge_at-requires c = whole_head _ _ c.whole_at.ensures c.if-whole_at.true

pub returns-then-whole_at : goal.returns-then-whole_at
returns-then-whole_at c = here_edge _ _ c.whole_at.ensures c.if-whole_at.true c.edge_at.ensures

pub returns-else-whole_at : goal.returns-else-whole_at
returns-else-whole_at c = here_end _ _ c.whole_at.ensures c.if-whole_at.false

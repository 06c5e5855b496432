-- `walker::steps::behind` meets its contract: whether the edge is whole decides. Assumes nothing.
use Rattle.walker.proofs.steps.WalkLaws.{whole_from, behind_edge, behind_end}
use Rattle.walker.proofs.steps.behind.Goals as goal

pub next_at-requires : goal.next_at-requires
next_at-requires c = whole_from _ _ c.whole_at.ensures c.if-whole_at.true

pub returns-then-whole_at : goal.returns-then-whole_at
returns-then-whole_at c = behind_edge _ _ c.whole_at.ensures c.if-whole_at.true c.next_at.ensures

pub returns-else-whole_at : goal.returns-else-whole_at
returns-else-whole_at c = behind_end _ _ c.whole_at.ensures c.if-whole_at.false

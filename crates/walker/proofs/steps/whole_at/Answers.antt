-- `walker::steps::whole_at` meets its contract: an edge from past the end is cut off, and of another its end decides. Assumes nothing.
use Rattle.walker.proofs.steps.WalkLaws.{cut_past, whole_next}
use Rattle.walker.proofs.steps.whole_at.Goals as goal

pub returns-then-listing-at : goal.returns-then-listing-at
returns-then-listing-at c = cut_past _ _ c.if-listing-at.true

pub returns : goal.returns
returns c = whole_next _ _ c.next_at.ensures

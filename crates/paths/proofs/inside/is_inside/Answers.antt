-- `paths::inside::is_inside` meets its contract, by the kind of the query. Assumes nothing.
use Rattle.paths.specs.Reading.{inside}
use Rattle.paths.proofs.inside.is_inside.Goals as goal

pub returns-in-Span : goal.returns-in-Span
unfolding inside
returns-in-Span c = rw c.in-Span.is

pub returns-in-Right : goal.returns-in-Right
unfolding inside
returns-in-Right c = rw c.in-Right.is

pub returns-in-Left : goal.returns-in-Left
unfolding inside
returns-in-Left c = rw c.in-Left.is

-- `queries::shown_part::part_of` meets its contract, by where the slice ends. Assumes nothing.
use native.Mathlib.Omega.{arith}
use Rattle.paths.proofs.ShownLaws.{part_past, part_to_end, part_within}
use Rattle.queries.proofs.shown_part.part_of.Goals as goal

pub returns-then-s-at : goal.returns-then-s-at
returns-then-s-at c = part_past _ _ _ c.if-s-at.true

pub returns-then-s-at-2 : goal.returns-then-s-at-2
returns-then-s-at-2 c = part_to_end _ _ _ (omega arith)

pub returns : goal.returns
returns c = part_within _ _ _

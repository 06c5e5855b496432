-- `nearest_number::nearest_number` meets its contract, by what the checks answer. Assumes nothing.
use mathlib.Core.Path.{sym}
use Rattle.nearest_number.proofs.NearestLaws.{nearest_spans, nearest_outside, nearest_found}
use Rattle.nearest_number.proofs.nearest_number.Goals as goal

pub returns-then-chars-place : goal.returns-then-chars-place
returns-then-chars-place c = nearest_outside _ _ _ (sym c.in_ok-chars.ensures) c.if-chars-place.true

pub nearest_of-requires : goal.nearest_of-requires
nearest_of-requires c = nearest_spans _ _ (sym c.in_ok-chars.ensures)

pub returns : goal.returns
returns c = nearest_found _ _ _ (sym c.in_ok-chars.ensures) c.if-chars-place.false c.nearest_of.ensures

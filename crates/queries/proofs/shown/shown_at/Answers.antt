-- `queries::shown::shown_at` meets its contract, by the right neighbour. Assumes nothing.
use mathlib.Core.Path.{sym, ◌∙◌}
use native.Mathlib.Omega.{arith}
use Rattle.paths.proofs.ReadingLaws.{spans_whole, found_head}
use Rattle.paths.proofs.ShownLaws.{offset_next, shown_listing, shown_line}
use Rattle.queries.proofs.shown.shown_at.Goals as goal

pub best_of-requires : goal.best_of-requires
best_of-requires c = spans_whole _ _ _ _ c.requires.0

pub edge_at-requires : goal.edge_at-requires
edge_at-requires c = found_head _ _ _ _ _ _ c.requires.0 (sym c.best_of.ensures ∙ c.in-Some.is)

pub overflow_sub-result : goal.overflow_sub-result
overflow_sub-result c = let a = c.args in omega (arith, offset_next a.line.now a.place.0)

pub returns-in-Some : goal.returns-in-Some
returns-in-Some c = shown_listing _ _ _ (sym c.best_of.ensures ∙ c.in-Some.is) c.edge_at.ensures

pub returns-in-None : goal.returns-in-None
returns-in-None c = shown_line _ _ _ (sym c.best_of.ensures ∙ c.in-None.is) c.offset_of-from.ensures c.offset_of-to.ensures

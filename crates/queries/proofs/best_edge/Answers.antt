-- `queries::best_edge` meets its contract, by what the checks answer. Assumes nothing.
use Rattle.std.proofs.Common.{ap, not}
use mathlib.Core.Path.{sym, ◌∙◌}
use borrow.Author.Tests.{not-true, not-false}
use Rattle.paths.proofs.ReadingLaws.{reads, spans_whole, answer_outside, answer_best}
use Rattle.queries.proofs.best_edge.Goals as goal

pub returns-then-not-is_inside : goal.returns-then-not-is_inside
returns-then-not-is_inside c = answer_outside _ _ _ _ (sym c.in_ok-chars.ensures) (sym c.is_inside.ensures ∙ not-true _ (ap not c.if-not-is_inside.true))

pub best_of-requires : goal.best_of-requires
best_of-requires c = spans_whole _ _ _ _ (reads _ _ _ _ (sym c.in_ok-chars.ensures)).spans

pub returns : goal.returns
returns c = answer_best _ _ _ _ (sym c.in_ok-chars.ensures) (sym c.is_inside.ensures ∙ not-false _ (ap not c.if-not-is_inside.false)) c.best_of.ensures

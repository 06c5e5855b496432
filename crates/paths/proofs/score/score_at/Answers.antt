-- `paths::score::score_at` meets its contract, by whether the edge is asked for, its class, and its length. Assumes nothing.
use Rattle.std.proofs.Common.{ap, not}
use mathlib.Core.Path.{◌≡◌, sym, ◌∙◌}
use mathlib.Core.Bool.{true}
use native.Mathlib.Omega.{arith}
use borrow.Author.Tests.{not-true, not-false}
use Rattle.edge.specs.Layout.{string_end, edge_at}
use Rattle.paths.specs.Best.{asked}
use Rattle.paths.proofs.BestLaws.{class_le, score_not_asked, score_never, score_asked, asked_at, places_at}
use Rattle.paths.proofs.score.score_at.Goals as goal

pub overflow_add-at : goal.overflow_add-at
unfolding string_end
overflow_add-at c = omega arith

pub u16_at-start-requires : goal.u16_at-start-requires
unfolding string_end
u16_at-start-requires c = omega arith

pub overflow_add-at-2 : goal.overflow_add-at-2
unfolding string_end
overflow_add-at-2 c = omega arith

pub u16_at-end-requires : goal.u16_at-end-requires
unfolding string_end
u16_at-end-requires c = omega arith

pub returns-then-not-is_asked : goal.returns-then-not-is_asked
returns-then-not-is_asked c = score_not_asked _ _ _ (sym (asked_at _ _ c.u16_at-start.ensures c.u16_at-end.ensures _ c.is_asked.ensures) ∙ not-true _ (ap not c.if-not-is_asked.true))

pub returns-then-class-eq0 : goal.returns-then-class-eq0
returns-then-class-eq0 c =
    let is_asked_for : let a = c.args in let e = edge_at a.s.now a.at in asked a.q e.start e.end ≡ true = sym (asked_at _ _ c.u16_at-start.ensures c.u16_at-end.ensures _ c.is_asked.ensures) ∙ not-false _ (ap not c.if-not-is_asked.false) in
    score_never _ _ _ is_asked_for c.class_at-class.ensures c.if-class-eq0.true

pub overflow_add-result : goal.overflow_add-result
overflow_add-result c = omega (arith, class_le _ _ c.class_at-class.ensures)

pub returns : goal.returns
returns c =
    let is_asked_for : let a = c.args in let e = edge_at a.s.now a.at in asked a.q e.start e.end ≡ true = sym (asked_at _ _ c.u16_at-start.ensures c.u16_at-end.ensures _ c.is_asked.ensures) ∙ not-false _ (ap not c.if-not-is_asked.false) in
    score_asked _ _ _ is_asked_for c.class_at-class.ensures c.if-class-eq0.false (c.saturating_sub.ensures ∙ places_at _ _ c.u16_at-start.ensures c.u16_at-end.ensures)

use mathlib.Core.Path.{ap, ap₂, ◌∙◌}
use mathlib.Core.Bool.{false}
use native.Mathlib.Omega.{arith}
use Rattle.paths.specs.Best.{score}
use Rattle.fraction_choices.specs.Around.{place_of}
use Rattle.fraction_choices.proofs.decision.NeighborLaws.{Table, table_start, table_turn, table_ends, keeps_count, keeps_edge, keeps_next, keeps_head, keeps_ten, keeps_place}
use Rattle.fraction_choices.proofs.neighbors.scored_neighbors.Goals as goal

pub loop-i-init : goal.loop-i-init
loop-i-init c = λ es k. table_start _ es c.requires.1 c.requires.2

pub place_at-place-requires : goal.place_at-place-requires
place_at-place-requires c =
    let so_far : Table c.args.right c.requires.0.0 c.loop-i.at c.loop-i.i c.loop-i.tops c.loop-i.table = c.loop-i.invariant _ c.requires.0.1 in
    keeps_ten c.requires.0.1 c.loop-i-test.true so_far.stands

pub score_at-score-requires : goal.score_at-score-requires
score_at-score-requires c =
    let so_far : Table c.args.right c.requires.0.0 c.loop-i.at c.loop-i.i c.loop-i.tops c.loop-i.table = c.loop-i.invariant _ c.requires.0.1 in
    keeps_head c.requires.0.1 c.loop-i-test.true so_far.stands

pub keep-requires : goal.keep-requires
keep-requires c =
    let so_far : Table c.args.right c.requires.0.0 c.loop-i.at c.loop-i.i c.loop-i.tops c.loop-i.table = c.loop-i.invariant _ c.requires.0.1 in
    let k = c.requires.0.1 in
    let a = keeps_place k c.loop-i-test.true so_far.stands c.args.right c.place_at-place.ensures in
    (omega (arith, so_far.scores), omega (arith, so_far.indices))

pub next_at-at-requires : goal.next_at-at-requires
next_at-at-requires c =
    let so_far : Table c.args.right c.requires.0.0 c.loop-i.at c.loop-i.i c.loop-i.tops c.loop-i.table = c.loop-i.invariant _ c.requires.0.1 in
    let h = keeps_ten c.requires.0.1 c.loop-i-test.true so_far.stands in
    omega arith

pub loop-i-preserved : goal.loop-i-preserved
loop-i-preserved c =
    λ es k.
    let w = c.loop-i.invariant es k in
    let n = keeps_count k in
    let m = c.loop-i-test.true in
    let e = keeps_edge k m w.stands in
    table_turn w (omega arith)
    (c.place_at-place.ensures ∙ ap (place_of c.args.right) e) (keeps_place k m w.stands c.args.right c.place_at-place.ensures)
    (c.score_at-score.ensures ∙ ap₂ (score false) c.side.ensures e) (c.next_at-at.ensures ∙ keeps_next k m w.stands)
    c.keep.ensures.scores c.keep.ensures.kept

pub returns : goal.returns
returns c = λ es k. let n = keeps_count k in let m = c.loop-i-test.false in table_ends (c.loop-i.invariant es k) (omega arith)

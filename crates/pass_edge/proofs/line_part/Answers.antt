-- `pass_edge::line_part` meets its contract: the offsets of the two places, and what stands between. Assumes nothing.
use mathlib.Core.Path.{◌∙◌}
use native.Mathlib.Omega.{arith}
use lib.ListN.{get_or}
use Rattle.pass_edge.proofs.TextLaws.{part_places, spans, Spans, cut_to}
use Rattle.pass_edge.proofs.line_part.Goals as goal

pub offset_bounds-offs-first : goal.offset_bounds-offs-first
offset_bounds-offs-first c = omega (arith, c.requires.1, c.requires.2, c.requires.3)

pub bounds-offs-first : goal.bounds-offs-first
bounds-offs-first c = omega (arith, c.requires.1, c.requires.2, c.requires.3)

pub offset_bounds-offs-last : goal.offset_bounds-offs-last
offset_bounds-offs-last c = omega (arith, c.requires.2, c.requires.3)

pub bounds-offs-last : goal.bounds-offs-last
bounds-offs-last c = omega (arith, c.requires.2, c.requires.3)

pub slice_bounds-result-count : goal.slice_bounds-result-count
slice_bounds-result-count c =
    let own : Spans c.args.line.now c.args.offs.now c.args.start.0 c.args.end.0 = spans c.args.line.now c.args.offs.now c.args.start.0 c.args.end.0 c.requires.0 c.requires.1 c.requires.2 in
    (own).rises

pub slice_bounds-result-start : goal.slice_bounds-result-start
slice_bounds-result-start c =
    let own : Spans c.args.line.now c.args.offs.now c.args.start.0 c.args.end.0 = spans c.args.line.now c.args.offs.now c.args.start.0 c.args.end.0 c.requires.0 c.requires.1 c.requires.2 in
    (own).rises

pub slice_bounds-result-end : goal.slice_bounds-result-end
slice_bounds-result-end c =
    let own : Spans c.args.line.now c.args.offs.now c.args.start.0 c.args.end.0 = spans c.args.line.now c.args.offs.now c.args.start.0 c.args.end.0 c.requires.0 c.requires.1 c.requires.2 in
    (own).within

pub returns : goal.returns
returns c =
    let offs = c.args.offs.now in
    cut_to c.args.line.now (get_or offs c.args.start.0 0) (get_or offs c.args.end.0 0) ∙ part_places c.args.line.now offs c.args.start.0 c.args.end.0 c.requires.0 c.requires.1 c.requires.2

-- `queries::path::path` meets its contract, by what the checks answer: answer and output are of one decision. Assumes nothing.
use Rattle.std.proofs.Common.{not}
use mathlib.Core.Path.{sym, ap, ◌∙◌}
use native.Mathlib.Nat.{le_trans}
use lib.ListN.{length}
use borrow.Author.Tests.{not-true, not-false}
use Rattle.paths.specs.Path.{written, after}
use Rattle.paths.proofs.ReadingLaws.{reads, spans_le}
use Rattle.paths.proofs.PathLaws.{out_outside, out_inside, span_inside}
use Rattle.queries.proofs.path.path.Goals as goal

pub returns-then-not-is_inside : goal.returns-then-not-is_inside
returns-then-not-is_inside c =
    let outside = sym c.is_inside.ensures ∙ not-true _ (ap not c.if-not-is_inside.true) in
    let e = out_outside c.args.line.now c.args.listing.now c.args.start c.args.end c.args.skip (length c.args.out.now) (sym c.in_ok-chars.ensures) outside in
    record { answer = ap written e; output = ap (after c.args.out.now) e }

pub path_in-requires : goal.path_in-requires
path_in-requires c =
    let within = sym c.is_inside.ensures ∙ not-false _ (ap not c.if-not-is_inside.false) in
    let r = reads _ _ _ _ (sym c.in_ok-chars.ensures) in (spans_le _ _ _ _ _ r.few r.spans, le_trans (span_inside _ _ _ within) r.few)

pub returns : goal.returns
returns c =
    let within = sym c.is_inside.ensures ∙ not-false _ (ap not c.if-not-is_inside.false) in
    let e = out_inside c.args.line.now c.args.listing.now c.args.start c.args.end c.args.skip (length c.args.out.now) (sym c.in_ok-chars.ensures) within in
    record {
      answer = c.path_in.ensures.answer ∙ ap written e;
      output = c.path_in.ensures.output ∙ ap (after c.args.out.now) e;
    }

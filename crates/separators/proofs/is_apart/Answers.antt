-- `separators::is_apart` meets its contract, by what the edge has: numeric data, a digit first, a mark where it starts. Assumes nothing.
use Rattle.std.proofs.Common.{ap, not}
use Prim.Native.Nat.{◌+◌, ◌≤◌}
use native.Mathlib.Omega.{arith}
use lib.ListN.{length}
use borrow.Author.Tests.{not-true, not-false}
use Rattle.edge.proofs.CheckLaws.{head_within, txt_within}
use Rattle.separators.proofs.MarkLaws.{start_in, apart_not, apart_digit}
use Rattle.separators.proofs.is_apart.Goals as goal

pub edge_at-e-requires : goal.edge_at-e-requires
edge_at-e-requires c = head_within _ _ _ c.requires.whole

pub overflow_add-to : goal.overflow_add-to
overflow_add-to c =
    let txt_inside : c.edge_at-e.result.txt.at.0 + c.edge_at-e.result.txt.len ≤ length c.args.work.now = txt_within _ _ _ _ c.edge_at-e.ensures (head_within _ _ _ c.requires.whole) in
    omega (arith, txt_inside)

pub bounds-marks-place : goal.bounds-marks-place
bounds-marks-place c = start_in _ _ c.edge_at-e.ensures c.requires

pub returns-then-not-bit-marks : goal.returns-then-not-bit-marks
returns-then-not-bit-marks c = apart_not _ _ c.edge_at-e.ensures c.bit.ensures c.args.marks.now (not-true _ (ap not c.if-not-bit-marks.true))

pub slice_bounds-begins_with_digit-end : goal.slice_bounds-begins_with_digit-end
slice_bounds-begins_with_digit-end c =
    let txt_inside : c.edge_at-e.result.txt.at.0 + c.edge_at-e.result.txt.len ≤ length c.args.work.now = txt_within _ _ _ _ c.edge_at-e.ensures (head_within _ _ _ c.requires.whole) in
    omega (arith, txt_inside)

pub returns : goal.returns
returns c = apart_digit _ _ c.edge_at-e.ensures c.bit.ensures c.args.marks.now (not-false _ (ap not c.if-not-bit-marks.false)) c.begins_with_digit.ensures

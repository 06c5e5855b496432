-- `marks::digit_end` meets its contract. Assumes nothing.
use mathlib.Core.Path.{◌∙◌}
use Prim.Native.Nat.{◌+◌, ◌≤◌}
use native.Mathlib.Omega.{arith}
use lib.ListN.{length}
use Rattle.edge.proofs.CheckLaws.{head_within, txt_within}
use Rattle.marks.proofs.ReadLaws.{end_marked}
use Rattle.marks.proofs.digit_end.Goals as goal

pub edge_at-e-requires : goal.edge_at-e-requires
edge_at-e-requires c = head_within _ _ _ c.requires.whole

pub overflow_add-to : goal.overflow_add-to
overflow_add-to c =
    let txt_inside : c.edge_at-e.result.txt.at.0 + c.edge_at-e.result.txt.len ≤ length c.args.work.now = txt_within _ _ _ _ c.edge_at-e.ensures (head_within _ _ _ c.requires.whole) in
    omega (arith, txt_inside)

pub slice_bounds-ends_with_digit-end : goal.slice_bounds-ends_with_digit-end
slice_bounds-ends_with_digit-end c =
    let txt_inside : c.edge_at-e.result.txt.at.0 + c.edge_at-e.result.txt.len ≤ length c.args.work.now = txt_within _ _ _ _ c.edge_at-e.ensures (head_within _ _ _ c.requires.whole) in
    omega (arith, txt_inside)

pub returns : goal.returns
returns c = c.then_some.ensures ∙ end_marked _ _ c.edge_at-e.ensures c.ends_with_digit.ensures

-- `pass_edge::type_at` meets its contract: the length of a checked record's type stands before it. Assumes nothing.
use mathlib.Core.Path.{sym, ◌∙◌}
use Prim.Native.Nat.{◌+◌, ◌≤◌}
use native.Mathlib.Nat.{le-add_right}
use native.Mathlib.Omega.{arith}
use lib.ListN.{length, get_or}
use Rattle.pass_edge.proofs.RecordLaws.{type_end}
use Rattle.pass_edge.proofs.TextLaws.{type_part, type_within, cut}
use Rattle.pass_edge.proofs.type_at.Goals as goal

pub overflow_add-from : goal.overflow_add-from
overflow_add-from c =
    let within : type_end c.args.table.now c.args.at ≤ length c.args.table.now = type_within c.args.table.now c.args.at c.requires in
    omega (arith, within, c.well_formed.0)

pub overflow_add-to : goal.overflow_add-to
overflow_add-to c =
    let within : type_end c.args.table.now c.args.at ≤ length c.args.table.now = type_within c.args.table.now c.args.at c.requires in
    omega (arith, within, c.well_formed.0)

pub bounds-table-at : goal.bounds-table-at
bounds-table-at c =
    let within : type_end c.args.table.now c.args.at ≤ length c.args.table.now = type_within c.args.table.now c.args.at c.requires in
    omega (arith, within)

pub overflow_cast-to : goal.overflow_cast-to
overflow_cast-to c = omega (arith, c.type_inv.table (c.args.at + 5))

pub overflow_add-to-2 : goal.overflow_add-to-2
overflow_add-to-2 c =
    let within : type_end c.args.table.now c.args.at ≤ length c.args.table.now = type_within c.args.table.now c.args.at c.requires in
    omega (arith, within, c.well_formed.0)

pub slice_bounds-result-count : goal.slice_bounds-result-count
slice_bounds-result-count c = le-add_right _ _

pub slice_bounds-result-start : goal.slice_bounds-result-start
slice_bounds-result-start c = le-add_right _ _

pub slice_bounds-result-end : goal.slice_bounds-result-end
slice_bounds-result-end c =
    let within : type_end c.args.table.now c.args.at ≤ length c.args.table.now = type_within c.args.table.now c.args.at c.requires in
    within

pub returns : goal.returns
returns c = cut c.args.table.now (c.args.at + 6) (get_or c.args.table.now (c.args.at + 5) 0) ∙ sym (type_part c.args.table.now c.args.at c.requires)

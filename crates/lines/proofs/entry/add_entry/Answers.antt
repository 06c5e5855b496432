-- `lines::entry::add_entry` meets its contract: the entry does not fit, or its status and number are put, and the listing from the work space behind them. Assumes nothing.
use native.Mathlib.Omega.{arith}
use Rattle.lines.specs.Pages.{answer_for}
use Rattle.lines.specs.Steps.{Left}
use Rattle.lines.proofs.FillLaws.{listing_short, listing_long, listing_inside, entry_no_room, entry_put}
use Rattle.lines.proofs.entry.add_entry.Goals as goal

pub overflow_add-len : goal.overflow_add-len
overflow_add-len c =
    let left : Left c.answer_line-answer.new.work c.answer_line-answer.result (answer_for c.args.table.now c.args.line.now) = c.answer_line-answer.ensures in
    omega (arith, listing_short left c.unwrap_or-len.ensures)

pub returns-then-out-at : goal.returns-then-out-at
returns-then-out-at c =
    let left : Left c.answer_line-answer.new.work c.answer_line-answer.result (answer_for c.args.table.now c.args.line.now) = c.answer_line-answer.ensures in
    entry_no_room left c.unwrap_or-len.ensures _ _ c.requires.0 c.if-out-at.true

pub slice_bounds-copy_in-end : goal.slice_bounds-copy_in-end
slice_bounds-copy_in-end c =
    let left : Left c.answer_line-answer.new.work c.answer_line-answer.result (answer_for c.args.table.now c.args.line.now) = c.answer_line-answer.ensures in
    listing_inside left c.unwrap_or-len.ensures

pub slice_bounds-copy_in-end-2 : goal.slice_bounds-copy_in-end-2
slice_bounds-copy_in-end-2 c =
    let left : Left c.answer_line-answer.new.work c.answer_line-answer.result (answer_for c.args.table.now c.args.line.now) = c.answer_line-answer.ensures in
    listing_long left c.unwrap_or-len.ensures

pub copy_in-requires : goal.copy_in-requires
copy_in-requires c =
    let left : Left c.answer_line-answer.new.work c.answer_line-answer.result (answer_for c.args.table.now c.args.line.now) = c.answer_line-answer.ensures in
    omega (arith, listing_long left c.unwrap_or-len.ensures, c.if-out-at.false, c.requires.0, c.put_status.auto.out)

pub returns : goal.returns
returns c =
    let left : Left c.answer_line-answer.new.work c.answer_line-answer.result (answer_for c.args.table.now c.args.line.now) = c.answer_line-answer.ensures in
    entry_put left c.unwrap_or-len.ensures _ _ c.requires.0 c.if-out-at.false c.answer_told.ensures c.put_status.ensures c.copy_in.ensures

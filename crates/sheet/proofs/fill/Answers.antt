use mathlib.Core.Path.{refl, ◌∙◌}
use native.Mathlib.Omega.{arith}
use Rattle.sheet_rows.proofs.CodeLaws.{put_length}
use Rattle.sheet.proofs.CodeLaws.{none_tried}
use Rattle.sheet.proofs.FillLaws.{fill_start, fill_none, fill_row, fill_stops, fill_ends, row_found, row_taken, row_put}
use Rattle.sheet.proofs.fill.Goals as goal

pub loop-index-init : goal.loop-index-init
loop-index-init c = (fill_start _ _ c.requires, refl, refl)

-- the candidate has no row
pub loop-index-preserved-in_default : goal.loop-index-preserved-in_default
loop-index-preserved-in_default c =
    let e = none_tried c.loop-index.index c.try_candidate.ensures.answer c.in_default.is in
    (fill_none _ _ _ _ _ _ c.loop-index.invariant.0 c.loop-index-test.true e, put_length c.try_candidate.ensures.put ∙ c.loop-index.invariant.1, c.loop-index.invariant.2)

pub row_len-requires : goal.row_len-requires
row_len-requires c =
    let r = row_found c.loop-index.index c.try_candidate.ensures.answer c.in-Some.is c.try_candidate.ensures.put c.loop-index.invariant.1 in
    omega (arith, r.small)

-- the row does not fit
pub returns-then-out-at : goal.returns-then-out-at
returns-then-out-at c =
    let r = row_found c.loop-index.index c.try_candidate.ensures.answer c.in-Some.is c.try_candidate.ensures.put c.loop-index.invariant.1 in
    fill_stops _ _ _ _ _ _ c.loop-index.invariant.0 c.loop-index-test.true _ r.value (omega (arith, r.size, c.row_len.ensures, c.if-out-at.true, c.loop-index.invariant.2))

pub slice_bounds-buf-end : goal.slice_bounds-buf-end
slice_bounds-buf-end c =
    let r = row_found c.loop-index.index c.try_candidate.ensures.answer c.in-Some.is c.try_candidate.ensures.put c.loop-index.invariant.1 in
    r.fits

pub slice_bounds-put_row-end : goal.slice_bounds-put_row-end
slice_bounds-put_row-end c =
    let r = row_found c.loop-index.index c.try_candidate.ensures.answer c.in-Some.is c.try_candidate.ensures.put c.loop-index.invariant.1 in
    row_taken r

pub put_row-at-requires : goal.put_row-at-requires
put_row-at-requires c =
    let r = row_found c.loop-index.index c.try_candidate.ensures.answer c.in-Some.is c.try_candidate.ensures.put c.loop-index.invariant.1 in
    omega (arith, row_taken r, c.row_len.ensures, c.if-out-at.false, c.loop-index.invariant.0.room, c.loop-index.invariant.2)

pub overflow_add-rows : goal.overflow_add-rows
overflow_add-rows c = omega (arith, c.loop-index.invariant.0.few, c.loop-index.invariant.0.inside)

-- the row is put
pub loop-index-preserved : goal.loop-index-preserved
loop-index-preserved c =
    let r = row_found c.loop-index.index c.try_candidate.ensures.answer c.in-Some.is c.try_candidate.ensures.put c.loop-index.invariant.1 in
    let put = row_put r c.put_row-at.ensures in (
      fill_row _ _ _ _ _ _ c.loop-index.invariant.0 c.loop-index-test.true _ r.value (omega (arith, r.size, c.row_len.ensures, c.if-out-at.false, c.loop-index.invariant.2)) put,
      put_length c.try_candidate.ensures.put ∙ c.loop-index.invariant.1,
      put_length put ∙ c.loop-index.invariant.2,
    )

pub returns : goal.returns
returns c = fill_ends _ _ _ _ _ _ c.loop-index.invariant.0 c.loop-index-test.false

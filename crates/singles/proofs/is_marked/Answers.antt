-- `singles::is_marked` meets its contract. Assumes nothing.
use Prim.Native.Nat.{◌+◌, ◌≤◌}
use native.Mathlib.Omega.{arith}
use lib.ListN.{length}
use Rattle.paths.proofs.BestLaws.{head_bytes_lem}
use Rattle.singles.proofs.StageLaws.{place_read, one_place_lem, other}
use Rattle.singles.proofs.is_marked.Goals as goal

pub overflow_add-at : goal.overflow_add-at
overflow_add-at c =
    let inside : c.args.at + 10 ≤ length c.args.listing.now = head_bytes_lem _ _ _ c.requires.whole in
    omega (arith, inside)

pub u16_at-start-requires : goal.u16_at-start-requires
u16_at-start-requires c =
    let inside : c.args.at + 10 ≤ length c.args.listing.now = head_bytes_lem _ _ _ c.requires.whole in
    omega (arith, inside)

pub overflow_add-at-2 : goal.overflow_add-at-2
overflow_add-at-2 c =
    let inside : c.args.at + 10 ≤ length c.args.listing.now = head_bytes_lem _ _ _ c.requires.whole in
    omega (arith, inside)

pub u16_at-end-requires : goal.u16_at-end-requires
u16_at-end-requires c =
    let inside : c.args.at + 10 ≤ length c.args.listing.now = head_bytes_lem _ _ _ c.requires.whole in
    omega (arith, inside)

pub bounds-marks-start : goal.bounds-marks-start
bounds-marks-start c = omega (arith, place_read _ _ c.u16_at-start.ensures c.u16_at-end.ensures c.requires)

pub returns-then-end-start : goal.returns-then-end-start
returns-then-end-start c = one_place_lem _ _ c.u16_at-start.ensures c.u16_at-end.ensures c.args.marks.now c.if-end-start.true

pub returns : goal.returns
returns c = other _ _ c.u16_at-start.ensures c.u16_at-end.ensures c.args.marks.now c.if-end-start.false

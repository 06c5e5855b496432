-- `marks::one_place` meets its contract. Assumes nothing.
use mathlib.Core.Path.{◌∙◌}
use Prim.Native.Nat.{◌+◌, ◌≤◌}
use native.Mathlib.Omega.{arith}
use lib.ListN.{length}
use Rattle.paths.proofs.BestLaws.{head_bytes_lem}
use Rattle.marks.proofs.ReadLaws.{place_marked}
use Rattle.marks.proofs.one_place.Goals as goal

pub u16_at-map-requires : goal.u16_at-map-requires
u16_at-map-requires c =
    let inside : c.args.at + 10 ≤ length c.args.work.now = head_bytes_lem _ _ _ c.requires.whole in
    omega (arith, inside)

pub overflow_add-at : goal.overflow_add-at
overflow_add-at c =
    let inside : c.args.at + 10 ≤ length c.args.work.now = head_bytes_lem _ _ _ c.requires.whole in
    omega (arith, inside)

pub u16_at-start-requires : goal.u16_at-start-requires
u16_at-start-requires c =
    let inside : c.args.at + 10 ≤ length c.args.work.now = head_bytes_lem _ _ _ c.requires.whole in
    omega (arith, inside)

pub overflow_add-at-2 : goal.overflow_add-at-2
overflow_add-at-2 c =
    let inside : c.args.at + 10 ≤ length c.args.work.now = head_bytes_lem _ _ _ c.requires.whole in
    omega (arith, inside)

pub u16_at-end-requires : goal.u16_at-end-requires
u16_at-end-requires c =
    let inside : c.args.at + 10 ≤ length c.args.work.now = head_bytes_lem _ _ _ c.requires.whole in
    omega (arith, inside)

pub returns : goal.returns
returns c = c.then_some.ensures ∙ place_marked _ _ c.u16_at-map.ensures c.u16_at-start.ensures c.u16_at-end.ensures c.bit.ensures

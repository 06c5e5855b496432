-- `lattice::turn_off` meets its contract: the map of the i-th edge is stored without its bit. Assumes nothing.
use Prim.Native.Nat.{◌+◌, ◌≤◌}
use native.Mathlib.Omega.{arith}
use Rattle.lattice.proofs.KeptLaws.{map_in}
use Rattle.lattice.proofs.HoldsLaws.{kept_of_lem}
use Rattle.lattice.proofs.TurnOffLaws.{holds_turned, turned_frame}
use Rattle.lattice.proofs.turn_off.Goals as goal

pub u16_at-requires : goal.u16_at-requires
u16_at-requires c =
    let inside : c.offset_at-at.result + 2 ≤ 32768 =
    let k = kept_of_lem c.requires.0.1 c.requires.1 in
    let a = c.offset_at-at.ensures _ c.requires.0.1 in
    let b = map_in k _ c.requires.2 in
    let d = k.short in
    omega arith in
    let h = inside in let r = c.requires.0.1.room in omega arith

pub put_u16-requires : goal.put_u16-requires
put_u16-requires c =
    let inside : c.offset_at-at.result + 2 ≤ 32768 =
    let k = kept_of_lem c.requires.0.1 c.requires.1 in
    let a = c.offset_at-at.ensures _ c.requires.0.1 in
    let b = map_in k _ c.requires.2 in
    let d = k.short in
    omega arith in
    let h = inside in let r = c.requires.0.1.room in omega arith

pub returns : goal.returns
returns c =
    let w = c.args.work.now in
    let l = c.args.lattice in
    let i = c.args.i in (
      turned_frame {w = w} {l = l} {es = c.requires.0.0} c.requires.0.1 c.requires.1 i c.requires.2 {at = c.offset_at-at.result} {m = c.u16_at.result} {m' = c.inactive_map-map.result}
          (c.offset_at-at.ensures c.requires.0.0 c.requires.0.1) c.u16_at.ensures c.inactive_map-map.ensures {t = c.put_u16.new.out} c.put_u16.ensures,
      λ es q. holds_turned {w = w} {l = l} {es = es} q c.requires.1 i c.requires.2 {at = c.offset_at-at.result} {m = c.u16_at.result} {m' = c.inactive_map-map.result}
          (c.offset_at-at.ensures es q) c.u16_at.ensures c.inactive_map-map.ensures {t = c.put_u16.new.out} c.put_u16.ensures,
    )

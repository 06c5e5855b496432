-- `lattice_add::copy::add_copy` meets its contract: the copy is composed behind the listing, where there is always room, and added. Assumes nothing.
use Prim.Native.Nat.{◌+◌, ◌≤◌}
use mathlib.Core.Path.{refl}
use native.Mathlib.Omega.{arith}
use lib.ListN.{length}
use Rattle.lattice.proofs.HoldsLaws.{behind_twice}
use Rattle.lattice_add.specs.Copy.{prefixed}
use Rattle.lattice_add.proofs.copy.CopyLaws.{head_room, key_short, compose_asks, copy_stands, copy_holds, copy_frame}
use Rattle.lattice_add.proofs.copy.add_copy.Goals as goal

pub edge_at-v-requires : goal.edge_at-v-requires
edge_at-v-requires c =
    let room : c.args.lattice.len + 2048 ≤ length c.args.work.now = let r = c.requires.0.1.room in let h = c.requires.0.1.short in omega arith in
    head_room c.args.sep.now c.requires.1.1 (omega (arith, room))

pub overflow_sub-key : goal.overflow_sub-key
overflow_sub-key c = let b = key_short c.args.sep.now c.requires.1.1 c.edge_at-v.ensures in omega (arith, b.0, b.1, b.2)

pub overflow_sub-key-2 : goal.overflow_sub-key-2
overflow_sub-key-2 c = let b = key_short c.args.sep.now c.requires.1.1 c.edge_at-v.ensures in omega (arith, b.0, b.1, b.2)

pub overflow_add-key : goal.overflow_add-key
overflow_add-key c = let b = key_short c.args.sep.now c.requires.1.1 c.edge_at-v.ensures in omega (arith, b.0, b.1, b.2)

pub compose-to-requires : goal.compose-to-requires
compose-to-requires c =
    let room : c.args.lattice.len + 2048 ≤ length c.args.work.now = let r = c.requires.0.1.room in let h = c.requires.0.1.short in omega arith in
    compose_asks c.args.sep.now c.requires.1.1 c.edge_at-v.ensures room

pub add_edge-requires : goal.add_edge-requires
add_edge-requires c =
    let room : c.args.lattice.len + 2048 ≤ length c.args.work.now = let r = c.requires.0.1.room in let h = c.requires.0.1.short in omega arith in
    let put = c.compose-to.ensures.1 in
    let q = c.requires.1.1 in
    ((c.requires.0.0, copy_holds c.args.sep.now q c.edge_at-v.ensures put refl c.requires.0.1), (_, copy_stands c.args.sep.now q c.edge_at-v.ensures put room))

pub returns : goal.returns
returns c =
    let room : c.args.lattice.len + 2048 ≤ length c.args.work.now = let r = c.requires.0.1.room in let h = c.requires.0.1.short in omega arith in
    let put = c.compose-to.ensures.1 in (
      behind_twice c.args.work.now c.compose-to.new.work c.add_edge.new.work c.add_edge.ensures.0 (copy_frame c.args.sep.now c.requires.1.1 c.edge_at-v.ensures put c.requires.0.1.short),
      λ es e h q. c.add_edge.ensures.1 es (prefixed c.args.sep.now e) (copy_holds c.args.sep.now q c.edge_at-v.ensures put refl h) (copy_stands c.args.sep.now q c.edge_at-v.ensures put room),
    )

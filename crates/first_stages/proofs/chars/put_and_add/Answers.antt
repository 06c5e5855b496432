-- `first_stages::chars::put_and_add` meets its contract: the stored edge is stored behind the lattice, which stays, and then its edge is added. Assumes nothing.
use mathlib.Core.Path.{◌≡◌, sym, ap, ◌∙◌, subst}
use mathlib.Core.Bool.{Bool}
use Prim.Native.Nat.{◌+◌, ◌*◌}
use native.Mathlib.Omega.{arith}
use lib.Seq.{sets}
use Rattle.pass_list.specs.declared.record.PassEdge.{PassEdge}
use Rattle.pass_list.specs.StoredEdge.{StoredEdge, Small, EdgeIs}
use Rattle.pass_list.specs.Layout.{SIZE}
use Rattle.pass_list.specs.Stored.{record_bytes}
use Rattle.pass_list.specs.Kind.{kind_number}
use Rattle.pass_edge.specs.Grounded.{StoredIs}
use Rattle.characters.specs.CharStored.{char_stored}
use Rattle.characters.proofs.CharLaws.{char_kind}
use Rattle.lattice.specs.Kept.{END}
use Rattle.first_stages.specs.CharStage.{char_here}
use Rattle.first_stages.proofs.chars.AddingLaws.{stored_holds, stored_behind}
use Rattle.first_stages.proofs.chars.put_and_add.Goals as goal

pub overflow_add-end : goal.overflow_add-end
overflow_add-end c = omega (arith, c.requires.2, c.requires.0.few)

pub point_at-point-requires : goal.point_at-point-requires
point_at-point-requires c = (c.requires.0.offsets, omega (arith, c.requires.2), c.requires.0.few)

pub char_edge-e-requires : goal.char_edge-e-requires
char_edge-e-requires c =
    let a = c.args in
    let small = subst (λ (b : Bool). Small (char_stored a.table.now a.prop a.record_at.0 a.place.0 a.code b)) (sym c.point_at-point.ensures) c.requires.4.small in
    (c.requires.3, small, omega (arith, c.requires.2, c.requires.0.few))

pub overflow_mul-count : goal.overflow_mul-count
overflow_mul-count c = omega (arith, c.requires.1)

pub overflow_add-count : goal.overflow_add-count
overflow_add-count c = omega (arith, c.requires.1)

pub write_edge-requires : goal.write_edge-requires
write_edge-requires c =
    let stored_edge : StoredEdge = let a = c.args in char_here a.marks a.line.now a.table.now a.prop a.record_at.0 a.place.0 a.code in
    let edge_is : EdgeIs c.char_edge-e.result (stored_edge) =
    let a = c.args in
    subst (λ (b : Bool). EdgeIs c.char_edge-e.result (char_stored a.table.now a.prop a.record_at.0 a.place.0 a.code b)) c.point_at-point.ensures c.char_edge-e.ensures in
    (omega (arith, c.requires.1, c.requires.0.long), (stored_edge, edge_is))

pub add_char-requires : goal.add_char-requires
add_char-requires c =
    let stored_edge : StoredEdge = let a = c.args in char_here a.marks a.line.now a.table.now a.prop a.record_at.0 a.place.0 a.code in
    let edge_is : EdgeIs c.char_edge-e.result (stored_edge) =
    let a = c.args in
    subst (λ (b : Bool). EdgeIs c.char_edge-e.result (char_stored a.table.now a.prop a.record_at.0 a.place.0 a.code b)) c.point_at-point.ensures c.char_edge-e.ensures in
    let stored : let a = c.args in c.write_edge.new.out ≡ sets a.work.now (END + a.count * SIZE) (record_bytes (stored_edge)) = c.write_edge.ensures (stored_edge) (edge_is) in
    let is : StoredIs c.args.line.now c.args.table.now c.char_edge-e.result (stored_edge) = record { is = edge_is; marks = c.args.marks; sound = c.requires.4 } in
    let a = c.args in
    let room = c.requires.0 in (
      record {
        holds = (_, stored_holds a.work.now c.write_edge.new.out a.count stored_edge stored room.holds.1);
        offsets = room.offsets;
        stored_edge = (stored_edge, is);
        few = room.few;
      },
      ap (λ (x : PassEdge). kind_number x.kind) edge_is.is ∙ char_kind a.table.now a.prop a.record_at.0 a.place.0 a.code _,
    )

pub returns : goal.returns
returns c =
    let stored_edge : StoredEdge = let a = c.args in char_here a.marks a.line.now a.table.now a.prop a.record_at.0 a.place.0 a.code in
    let edge_is : EdgeIs c.char_edge-e.result (stored_edge) =
    let a = c.args in
    subst (λ (b : Bool). EdgeIs c.char_edge-e.result (char_stored a.table.now a.prop a.record_at.0 a.place.0 a.code b)) c.point_at-point.ensures c.char_edge-e.ensures in
    let stored : let a = c.args in c.write_edge.new.out ≡ sets a.work.now (END + a.count * SIZE) (record_bytes (stored_edge)) = c.write_edge.ensures (stored_edge) (edge_is) in
    let is : StoredIs c.args.line.now c.args.table.now c.char_edge-e.result (stored_edge) = record { is = edge_is; marks = c.args.marks; sound = c.requires.4 } in
    let w = c.args.work.now in
    let n = c.args.count in
    let v = c.write_edge.new.out in (
      stored_behind w v n stored_edge stored c.add_char.new.work edge_is.fits (omega (arith, c.requires.1, c.requires.0.long)) c.add_char.ensures.frame,
      λ es h. c.add_char.ensures.holds es stored_edge (stored_holds w v n stored_edge stored h) is,
    )

-- `first_stages::five_passes::add_joined` meets its contract: its type and its txt stand at the front of two buffers. Assumes nothing.
use mathlib.Core.Path.{refl, sym}
use Prim.Native.Nat.{◌≤◌}
use native.Mathlib.Omega.{arith}
use lib.ListN.{length, take}
use lib.Seq.{length-take-le}
use Rattle.pass_list.specs.StoredEdge.{StoredEdge}
use Rattle.pass_list.specs.Kind.{kind_number}
use Rattle.pass_edge.specs.Grounded.{StoredIs}
use Rattle.pass_edge.specs.Texts.{TextsAre}
use Rattle.pass_edge.proofs.listed.FieldLaws.{fraction_joined}
use Rattle.pass_edge.proofs.listed.AddedLaws.{texts_there, texts_added}
use Rattle.first_stages.proofs.five_passes.JoinedLaws.{joined_fits, joined_texts}
use Rattle.first_stages.proofs.five_passes.add_joined.Goals as goal

pub slice_bounds-ty-end : goal.slice_bounds-ty-end
slice_bounds-ty-end c =
    let fits : (c.type_of-ty_len.result ≤ length c.type_of-ty_len.new.buf) × (c.txt_of-len.result ≤ length c.txt_of-len.new.buf) =
    let (i, is) = c.requires.0.stored_edge in
    let f = joined_fits c.args.line.now c.args.table.now c.args.edge c.type_of-ty_len.ensures refl c.txt_of-len.ensures refl c.requires.0.few i is in
    (omega (arith, f.0, c.type_of-ty_len.auto.buf), omega (arith, f.1, c.txt_of-len.auto.buf)) in
    (fits).0

pub slice_bounds-add_texts-end : goal.slice_bounds-add_texts-end
slice_bounds-add_texts-end c =
    let fits : (c.type_of-ty_len.result ≤ length c.type_of-ty_len.new.buf) × (c.txt_of-len.result ≤ length c.txt_of-len.new.buf) =
    let (i, is) = c.requires.0.stored_edge in
    let f = joined_fits c.args.line.now c.args.table.now c.args.edge c.type_of-ty_len.ensures refl c.txt_of-len.ensures refl c.requires.0.few i is in
    (omega (arith, f.0, c.type_of-ty_len.auto.buf), omega (arith, f.1, c.txt_of-len.auto.buf)) in
    sym (length-take-le _ _ fits.0)

pub slice_bounds-txt-end : goal.slice_bounds-txt-end
slice_bounds-txt-end c =
    let fits : (c.type_of-ty_len.result ≤ length c.type_of-ty_len.new.buf) × (c.txt_of-len.result ≤ length c.txt_of-len.new.buf) =
    let (i, is) = c.requires.0.stored_edge in
    let f = joined_fits c.args.line.now c.args.table.now c.args.edge c.type_of-ty_len.ensures refl c.txt_of-len.ensures refl c.requires.0.few i is in
    (omega (arith, f.0, c.type_of-ty_len.auto.buf), omega (arith, f.1, c.txt_of-len.auto.buf)) in
    (fits).1

pub slice_bounds-add_texts-end-2 : goal.slice_bounds-add_texts-end-2
slice_bounds-add_texts-end-2 c =
    let fits : (c.type_of-ty_len.result ≤ length c.type_of-ty_len.new.buf) × (c.txt_of-len.result ≤ length c.txt_of-len.new.buf) =
    let (i, is) = c.requires.0.stored_edge in
    let f = joined_fits c.args.line.now c.args.table.now c.args.edge c.type_of-ty_len.ensures refl c.txt_of-len.ensures refl c.requires.0.few i is in
    (omega (arith, f.0, c.type_of-ty_len.auto.buf), omega (arith, f.1, c.txt_of-len.auto.buf)) in
    sym (length-take-le _ _ fits.1)

pub add_texts-requires : goal.add_texts-requires
add_texts-requires c =
    let texts : let a = c.args in (i : StoredEdge) → StoredIs a.line.now a.table.now a.edge i → TextsAre a.line.now a.table.now a.edge (take c.type_of-ty_len.result c.type_of-ty_len.new.buf) (take c.txt_of-len.result c.txt_of-len.new.buf) i = joined_texts c.args.line.now c.args.table.now c.args.edge c.type_of-ty_len.ensures refl c.txt_of-len.ensures refl c.requires.0.few in
    let p = c.requires.0 in
    (p.holds, p.offsets, texts_there texts p, p.few, fraction_joined c.args.table.now (kind_number c.args.edge.kind) c.args.edge.record_at.0 c.requires.1)

pub shape_of-work : goal.shape_of-work
shape_of-work c = c.add_texts.auto.work

pub returns : goal.returns
returns c =
    let texts : let a = c.args in (i : StoredEdge) → StoredIs a.line.now a.table.now a.edge i → TextsAre a.line.now a.table.now a.edge (take c.type_of-ty_len.result c.type_of-ty_len.new.buf) (take c.txt_of-len.result c.txt_of-len.new.buf) i = joined_texts c.args.line.now c.args.table.now c.args.edge c.type_of-ty_len.ensures refl c.txt_of-len.ensures refl c.requires.0.few in
    texts_added texts c.add_texts.ensures

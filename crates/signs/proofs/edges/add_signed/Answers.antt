-- `signs::edges::add_signed` meets its contract: the buffers begin with the texts of the definition. Assumes nothing.
use mathlib.Core.Path.{sym}
use mathlib.Core.List.{[], ◌∷◌, ◌++◌}
use native.Mathlib.Omega.{arith}
use lib.Seq.{length-take-le}
use Rattle.text.specs.Text.{chars}
use Rattle.pass_list.specs.StoredEdge.{StoredEdge, EdgeIs}
use Rattle.pass_list.specs.Edges.{txt_of}
use Rattle.pass_edge.specs.Texts.{type_of}
use Rattle.pass_edge.proofs.TextLaws.{type_short, places_of}
use Rattle.signs.specs.SignEdges.{Begins}
use Rattle.signs.proofs.edges.BufferLaws.{edge_added, sign_short}
use Rattle.signs.proofs.edges.add_signed.Goals as goal

pub sign_type-n-requires : goal.sign_type-n-requires
sign_type-n-requires c =
    let (i, is) = c.requires.0.stored_edge in
    (omega arith, (i, is.is, type_short (chars c.args.line.now) c.args.table.now i is.sound, is.sound.rooted))

pub sign_txt-k-requires : goal.sign_txt-k-requires
sign_txt-k-requires c = let p = c.requires.0 in (p.offsets, p.stored_edge, p.few, omega arith)

pub slice_bounds-ty-end : goal.slice_bounds-ty-end
slice_bounds-ty-end c =
    let type_is : (i : StoredEdge) → EdgeIs c.args.edge i → Begins c.sign_type-n.new.buf c.sign_type-n.result (type_of c.args.table.now i ++ (32 ∷ c.args.sign ∷ [])) = λ i e. c.sign_type-n.ensures i e in
    let (i, is) = c.requires.0.stored_edge in
    (type_is i is.is).inside

pub slice_bounds-add_regular-end : goal.slice_bounds-add_regular-end
slice_bounds-add_regular-end c =
    let type_is : (i : StoredEdge) → EdgeIs c.args.edge i → Begins c.sign_type-n.new.buf c.sign_type-n.result (type_of c.args.table.now i ++ (32 ∷ c.args.sign ∷ [])) = λ i e. c.sign_type-n.ensures i e in
    let (i, is) = c.requires.0.stored_edge in
    sym (length-take-le _ _ (type_is i is.is).inside)

pub slice_bounds-txt-end : goal.slice_bounds-txt-end
slice_bounds-txt-end c =
    let txt_is : (i : StoredEdge) → EdgeIs c.args.edge i → Begins c.sign_txt-k.new.buf c.sign_txt-k.result (c.args.sign ∷ txt_of (chars c.args.line.now) c.args.table.now i) = λ i e. c.sign_txt-k.ensures i e in
    let (i, is) = c.requires.0.stored_edge in
    (txt_is i is.is).inside

pub slice_bounds-add_regular-end-2 : goal.slice_bounds-add_regular-end-2
slice_bounds-add_regular-end-2 c =
    let txt_is : (i : StoredEdge) → EdgeIs c.args.edge i → Begins c.sign_txt-k.new.buf c.sign_txt-k.result (c.args.sign ∷ txt_of (chars c.args.line.now) c.args.table.now i) = λ i e. c.sign_txt-k.ensures i e in
    let (i, is) = c.requires.0.stored_edge in
    sym (length-take-le _ _ (txt_is i is.is).inside)

pub add_regular-requires : goal.add_regular-requires
add_regular-requires c =
    let type_is : (i : StoredEdge) → EdgeIs c.args.edge i → Begins c.sign_type-n.new.buf c.sign_type-n.result (type_of c.args.table.now i ++ (32 ∷ c.args.sign ∷ [])) = λ i e. c.sign_type-n.ensures i e in
    let txt_is : (i : StoredEdge) → EdgeIs c.args.edge i → Begins c.sign_txt-k.new.buf c.sign_txt-k.result (c.args.sign ∷ txt_of (chars c.args.line.now) c.args.table.now i) = λ i e. c.sign_txt-k.ensures i e in
    let p = c.requires.0 in
    let (i, is) = p.stored_edge in
    let places = places_of c.args.line.now c.args.table.now c.args.edge i is in
    let short = sign_short c.args.line.now c.args.table.now is p.few c.args.sign (type_is i is.is).is (txt_is i is.is).is in
    (p.holds, omega (arith, c.requires.1), omega (arith, places.1, p.few), short)

pub shape_of-work : goal.shape_of-work
shape_of-work c = c.add_regular.auto.work

pub returns : goal.returns
returns c =
    let type_is : (i : StoredEdge) → EdgeIs c.args.edge i → Begins c.sign_type-n.new.buf c.sign_type-n.result (type_of c.args.table.now i ++ (32 ∷ c.args.sign ∷ [])) = λ i e. c.sign_type-n.ensures i e in
    let txt_is : (i : StoredEdge) → EdgeIs c.args.edge i → Begins c.sign_txt-k.new.buf c.sign_txt-k.result (c.args.sign ∷ txt_of (chars c.args.line.now) c.args.table.now i) = λ i e. c.sign_txt-k.ensures i e in
    let a = c.args in
    (c.add_regular.ensures.0, λ es i q e. edge_added (chars a.line.now) a.table.now e a.start.0 a.sign (type_is i e).is (txt_is i e).is es (c.add_regular.ensures.1 es q))

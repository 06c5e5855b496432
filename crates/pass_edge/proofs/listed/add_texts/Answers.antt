-- `pass_edge::listed::add_texts` meets its contract: what is written is the stored edge's edge. Assumes nothing.
use mathlib.Core.Path.{sym}
use native.Mathlib.Omega.{arith}
use Rattle.pass_edge.proofs.TextLaws.{places_of}
use Rattle.pass_edge.proofs.listed.FieldLaws.{listable, writable, room, edge_is}
use Rattle.pass_edge.proofs.listed.add_texts.Goals as goal

pub fields_of-d-requires : goal.fields_of-d-requires
fields_of-d-requires c =
    let (i, are) = c.requires.2 in
    listable c.args.line.now c.args.offs.now c.args.table.now c.args.edge i are.stored_edge c.requires.1 c.requires.3

pub add_numeric-requires : goal.add_numeric-requires
add_numeric-requires c =
    let a = c.args in
    let (i, are) = c.requires.2 in
    let places = places_of a.line.now a.table.now a.edge i are.stored_edge in
    let write = writable a.line.now a.offs.now a.table.now a.edge i a.fraction a.ty.now a.txt.now are c.requires.1 c.requires.3 c.requires.4 c.fields_of-d.result c.fields_of-d.ensures in
    let all = room a.line.now a.offs.now a.table.now a.edge i a.fraction a.ty.now a.txt.now are c.requires.1 c.requires.3 c.requires.4 c.fields_of-d.result c.fields_of-d.ensures in
    (c.requires.0, omega (arith, places.0, places.1, c.requires.3), omega (arith, places.1, c.requires.3), write, all.all)

pub shape_of-work : goal.shape_of-work
shape_of-work c = c.add_numeric.auto.work

pub returns : goal.returns
returns c =
    let a = c.args in
    (c.add_numeric.ensures.0, λ es i holds are. rw (sym (edge_is a.line.now a.offs.now a.table.now a.edge i a.fraction a.ty.now a.txt.now are c.requires.1 c.requires.3 c.requires.4 c.fields_of-d.result c.fields_of-d.ensures)) (c.add_numeric.ensures.1 es holds))

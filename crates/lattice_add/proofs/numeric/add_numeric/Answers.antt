-- `lattice_add::numeric::add_numeric` meets its contract: the edge is written behind the listing, where there is always room, and added. Assumes nothing.
use mathlib.Core.Path.{◌∙◌}
use native.Mathlib.Omega.{arith}
use Rattle.edge.specs.Edge.{Edge}
use Rattle.edge.specs.Write.{numeric}
use Rattle.lattice_add.proofs.regular.ComposeLaws.{Composed, numeric_composed, composed_behind}
use Rattle.lattice_add.proofs.numeric.add_numeric.Goals as goal

pub write_numeric-written-requires : goal.write_numeric-written-requires
write_numeric-written-requires c =
    let q = c.requires.0.1 in
    (omega (arith, q.room, q.short), omega (arith, c.requires.4), omega (arith, c.requires.4), c.requires.1, c.requires.2, c.requires.3)

pub add_written-requires : goal.add_written-requires
add_written-requires c =
    let E : Edge = numeric c.args.start.0 c.args.end.0 c.args.ty.now c.args.txt.now c.args.orig.now c.args.script.now c.args.value.now c.args.num in
    let made : Composed c.args.work.now c.write_numeric-written.new.out c.args.lattice E c.write_numeric-written.result =
    numeric_composed c.requires.0.1 c.args.start.0 c.args.end.0 c.args.ty.now c.args.txt.now c.requires.1 c.requires.2
    c.args.orig.now c.args.script.now c.args.value.now c.args.num c.requires.3 c.requires.4 c.write_numeric-written.ensures.answer c.write_numeric-written.ensures.bytes in
    (c.requires.0.0, E, composed_behind made c.requires.0.1)

pub returns : goal.returns
returns c =
    let E : Edge = numeric c.args.start.0 c.args.end.0 c.args.ty.now c.args.txt.now c.args.orig.now c.args.script.now c.args.value.now c.args.num in
    let made : Composed c.args.work.now c.write_numeric-written.new.out c.args.lattice E c.write_numeric-written.result =
    numeric_composed c.requires.0.1 c.args.start.0 c.args.end.0 c.args.ty.now c.args.txt.now c.requires.1 c.requires.2
    c.args.orig.now c.args.script.now c.args.value.now c.args.num c.requires.3 c.requires.4 c.write_numeric-written.ensures.answer c.write_numeric-written.ensures.bytes in
    (c.add_written.ensures.0 ∙ made.frame, λ es q. c.add_written.ensures.1 es E (composed_behind made q))

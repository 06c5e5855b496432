use native.Mathlib.Omega.{arith}
use Rattle.text.specs.Text.{chars}
use Rattle.first_stages.proofs.five_passes.AddingLaws.{adding_none, adding_more, adding_all, stored_edge_sound}
use Rattle.first_stages.proofs.five_passes.add_of_kind.Goals as goal

pub loop-i-init : goal.loop-i-init
loop-i-init c = let a = c.args in adding_none (chars a.line.now) a.table.now a.kind a.stored a.work.now a.lattice

pub add_if-done-requires : goal.add_if-done-requires
add_if-done-requires c =
    let a = c.args in
    let i = c.loop-i.invariant in
    let (es, h) = c.requires.0 in
    ((_, i.holds es h), c.requires.1, c.requires.2, stored_edge_sound (chars a.line.now) a.table.now a.kind a.stored a.work.now a.lattice _ _ c.loop-i.i i c.requires.3 c.loop-i-test.true, omega (arith, i.long, c.requires.4, c.loop-i-test.true), c.requires.5)

pub loop-i-preserved : goal.loop-i-preserved
loop-i-preserved c =
    let a = c.args in
    let (es, h) = c.requires.0 in
    adding_more (chars a.line.now) a.table.now a.kind a.stored a.work.now a.lattice _ _ c.loop-i.i c.loop-i.invariant c.add_if-done.new.work c.add_if-done.result es h c.loop-i-test.true c.add_if-done.ensures.0 c.add_if-done.ensures.1

pub returns : goal.returns
returns c =
    let a = c.args in
    (c.loop-i.invariant.frame, adding_all (chars a.line.now) a.table.now a.kind a.stored a.work.now a.lattice _ _ c.loop-i.i c.loop-i.invariant c.loop-i-test.false)

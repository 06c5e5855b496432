-- `signs::add_edge_signs` meets its contract, by whether the stored edge starts behind the line's first place and has a value. Assumes nothing.
use mathlib.Core.Path.{refl, ◌∙◌}
use mathlib.Core.List.{List}
use Prim.Native.Nat.{◌≤◌}
use native.Mathlib.Omega.{arith}
use lib.ListN.{length}
use borrow.Author.Tests.{not-true, not-false}
use Rattle.text.specs.Text.{chars}
use Rattle.table.specs.Layout.{list_at}
use Rattle.table.specs.Answers.{table_of}
use Rattle.edge.specs.Edge.{Edge}
use Rattle.lattice.specs.Lattice.{add_all}
use Rattle.pass_list.specs.StoredEdge.{StoredEdge}
use Rattle.pass_list.specs.Edges.{edge_of}
use Rattle.numbers.specs.Signs.{signed}
use Rattle.markers.specs.Marks.{Formed}
use Rattle.markers.proofs.MarkLaws.{Marks, table_marks, all_formed}
use Rattle.signs.proofs.StoredEdgeLaws.{both_holds, none_holds, first_holds}
use Rattle.signs.proofs.add_edge_signs.Goals.{then-edge-eq0-via-then-edge-eq0, then-edge-eq0-via-else-edge-eq0+then-not-edge}
use Rattle.signs.proofs.add_edge_signs.Goals as goal

pub returns-then-edge-eq0 : goal.returns-then-edge-eq0
returns-then-edge-eq0 c =
    let marks : Marks (table_of c.args.table.now c.args.shape) = table_marks c.args.table.now c.requires.3.1.checked in
    let a = c.args in
    let w = chars a.line.now in (
      refl,
      λ es i q e. elim c.then-edge-eq0.branch [
        | then-edge-eq0-via-then-edge-eq0 v ↦ first_holds w a.table.now a.shape e v.if-edge-eq0.true marks es q
        | then-edge-eq0-via-else-edge-eq0+then-not-edge v ↦ none_holds w a.table.now a.shape e (not-true _ v.if-not-edge.true) es q
      ],
    )

pub add_signs_of-minus-requires : goal.add_signs_of-minus-requires
unfolding table_of
add_signs_of-minus-requires c =
    let few : length (chars c.args.line.now) ≤ 256 = let r = c.requires.3.1 in omega arith in
    let marks : Marks (table_of c.args.table.now c.args.shape) = table_marks c.args.table.now c.requires.3.1.checked in
    let minus_formed : Formed (list_at c.args.table.now c.args.shape.minus) = all_formed _ (marks).minus in
    (record { holds = c.requires.0; offsets = c.requires.1; stored_edge = c.requires.2; few = few }, minus_formed)

pub add_signs_of-requires : goal.add_signs_of-requires
unfolding table_of
add_signs_of-requires c =
    let minus : StoredEdge → List Edge = λ i. let w = chars c.args.line.now in let t = c.args.table.now in signed w 45 (edge_of w t i) (list_at t c.args.shape.minus) in
    let few : length (chars c.args.line.now) ≤ 256 = let r = c.requires.3.1 in omega arith in
    let marks : Marks (table_of c.args.table.now c.args.shape) = table_marks c.args.table.now c.requires.3.1.checked in
    let plus_formed : Formed (list_at c.args.table.now c.args.shape.plus) = all_formed _ (marks).plus in
    let held = c.add_signs_of-minus.ensures.holds c.requires.0.0 c.requires.2.0 c.requires.0.1 c.requires.2.1.is in
    (record { holds = (add_all c.requires.0.0 (minus c.requires.2.0), held); offsets = c.requires.1; stored_edge = c.requires.2; few = few }, plus_formed)

pub shape_of-work : goal.shape_of-work
shape_of-work c = c.add_signs_of.auto.work ∙ c.add_signs_of-minus.auto.work

pub returns : goal.returns
returns c =
    let minus : StoredEdge → List Edge = λ i. let w = chars c.args.line.now in let t = c.args.table.now in signed w 45 (edge_of w t i) (list_at t c.args.shape.minus) in
    let a = c.args in
    (c.add_signs_of.ensures.frame ∙ c.add_signs_of-minus.ensures.frame, λ es i q e. both_holds (chars a.line.now) a.table.now a.shape e (not-false _ c.if-not-edge.false) es (c.add_signs_of.ensures.holds (add_all es (minus i)) i (c.add_signs_of-minus.ensures.holds es i q e) e))

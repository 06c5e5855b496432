use mathlib.Core.List.{[], ◌∷◌}
use Rattle.text.specs.Text.{chars}
use Rattle.pass_list.specs.Edges.{edge_of}
use Rattle.numbers.specs.Signs.{signed}
use Rattle.markers.proofs.AnyLaws.{formed_first, formed_rest}
use Rattle.signs.proofs.edges.TowardLaws.{toward_next, toward_end}
use Rattle.signs.proofs.edges.SignLaws.{signs_turn, signs_end}
use Rattle.signs.proofs.edges.add_signs_of.Goals as goal

pub add_sign-grown-requires : goal.add_sign-grown-requires
add_sign-grown-requires c =
    let p = c.requires.0 in
    let d = (c.loop-text.invariant.2 p.stored_edge.0 p.stored_edge.1.is).holds p.holds.0 p.holds.1 in
    (record { holds = (d.0, d.1); offsets = p.offsets; stored_edge = p.stored_edge; few = p.few }, formed_first c.loop-text.invariant.3 c.in-Some.ensures.steps)

pub loop-text-preserved : goal.loop-text-preserved
loop-text-preserved c =
    let a = c.args in
    let w = chars a.line.now in (
      tt,
      tt,
      λ i e.
          let edge = edge_of w a.table.now i in
          toward_next (c.loop-text.invariant.2 i e) (signed w a.sign edge (c.in-Some.text.now ∷ []))
          (signs_turn w a.sign edge c.in-Some.ensures.steps) c.add_sign-grown.auto.work c.add_sign-grown.ensures.frame (λ es q. c.add_sign-grown.ensures.holds es i q e),
      formed_rest c.loop-text.invariant.3 c.in-Some.ensures.steps,
    )

pub shape_of-work : goal.shape_of-work
shape_of-work c =
    let p = c.requires.0 in
    (c.loop-text.invariant.2 p.stored_edge.0 p.stored_edge.1.is).long

pub returns : goal.returns
returns c =
    let a = c.args in
    let w = chars a.line.now in
    let p = c.requires.0 in
    record {
      frame = (c.loop-text.invariant.2 p.stored_edge.0 p.stored_edge.1.is).frame;
      holds = λ es i q e. toward_end (c.loop-text.invariant.2 i e) (signs_end w a.sign (edge_of w a.table.now i) c.in-None.ensures.steps.0) es q;
    }

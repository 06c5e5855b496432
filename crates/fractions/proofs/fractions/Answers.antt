-- `fractions::fractions` meets its contract: nothing changes where there is no marker, and the three loops in a row are the stage. Assumes nothing.
use Rattle.std.proofs.Common.{ap, not}
use mathlib.Core.Path.{◌≡◌, refl, sym, subst, ◌∙◌}
use mathlib.Core.List.{List}
use Rattle.text.specs.Text.{chars}
use Rattle.table.specs.Answers.{table_of}
use Rattle.edge.specs.Edge.{Edge}
use Rattle.lattice.specs.Kept.{Holds}
use Rattle.numbers.specs.CallEdge.{CallEdges}
use Rattle.fraction_choices.specs.Choices.{Decided}
use Rattle.lattice.proofs.HoldsLaws.{behind_twice}
use Rattle.fractions.proofs.parts.EdgeLaws.{not-true}
use Rattle.markers.proofs.MarkLaws.{table_marks}
use Rattle.fractions.proofs.AnyMarkerLaws.{marked_any, no_marker_stage}
use Rattle.fractions.proofs.StageLaws.{full_stage, keeps_of, planned, stage_holds}
use Rattle.fractions.proofs.fractions.Goals as goal

pub returns-then-lattice-eq0 : goal.returns-then-lattice-eq0
returns-then-lattice-eq0 c = (refl, λ es h k. full_stage (table_of c.args.table.now c.args.shape) (chars c.args.line.now) h c.if-lattice-eq0.true)

pub any_marker-requires : goal.any_marker-requires
any_marker-requires c = (c.requires.0, c.requires.2)

pub returns-then-not-any_marker : goal.returns-then-not-any_marker
returns-then-not-any_marker c =
    let t = table_of c.args.table.now c.args.shape in
    let w = chars c.args.line.now in
    let e = sym (marked_any w t (table_marks c.args.table.now c.requires.0.checked)) ∙ sym c.any_marker.ensures ∙ not-true _ (ap not c.if-not-any_marker.true) in
    (refl, λ es h k. subst (Holds c.args.work.now c.args.lattice) (no_marker_stage t w es e) h)

pub choose-requires : goal.choose-requires
choose-requires c = (c.requires.0, c.requires.2, (c.requires.1.0, keeps_of c.requires.0.few c.if-lattice-eq0.false c.requires.1.1 c.requires.1.2), refl)

pub turn_off_all-requires : goal.turn_off_all-requires
turn_off_all-requires c =
    let no_full : c.args.lattice.len ≡ 0 → ⊥ = c.if-lattice-eq0.false in
    let decided : (es : List Edge) → Holds c.args.work.now c.args.lattice es → CallEdges c.args.places es → Decided (table_of c.args.table.now c.args.shape) (chars c.args.line.now) es c.choose.new.choices c.args.places = λ es h k. c.choose.ensures _ (keeps_of c.requires.0.few (no_full) h k) in
    ((c.requires.1.0, c.requires.1.1, λ q h. ((decided _) c.requires.1.1 c.requires.1.2 q h).1), no_full, c.requires.0.few)

pub add_all-requires : goal.add_all-requires
add_all-requires c =
    let no_full : c.args.lattice.len ≡ 0 → ⊥ = c.if-lattice-eq0.false in
    let decided : (es : List Edge) → Holds c.args.work.now c.args.lattice es → CallEdges c.args.places es → Decided (table_of c.args.table.now c.args.shape) (chars c.args.line.now) es c.choose.new.choices c.args.places = λ es h k. c.choose.ensures _ (keeps_of c.requires.0.few (no_full) h k) in
    ((_, planned _ _ c.requires.1.0 _ ((decided _) c.requires.1.1 c.requires.1.2) c.requires.0.few c.requires.1.2 (c.turn_off_all.ensures.1 _ c.requires.1.1 (λ q h. ((decided _) c.requires.1.1 c.requires.1.2 q h).1))), c.requires.0.few)

pub shape_of-work : goal.shape_of-work
shape_of-work c = c.add_all.auto.work ∙ c.turn_off_all.auto.work

pub returns : goal.returns
returns c =
    let no_full : c.args.lattice.len ≡ 0 → ⊥ = c.if-lattice-eq0.false in
    let decided : (es : List Edge) → Holds c.args.work.now c.args.lattice es → CallEdges c.args.places es → Decided (table_of c.args.table.now c.args.shape) (chars c.args.line.now) es c.choose.new.choices c.args.places = λ es h k. c.choose.ensures _ (keeps_of c.requires.0.few (no_full) h k) in
    let r = c.requires.0 in (
      behind_twice c.args.work.now c.turn_off_all.new.work c.add_all.new.work c.add_all.ensures.0 c.turn_off_all.ensures.0,
      λ es h k. let d = (decided _) h k in stage_holds _ _ es _ d r.count r.few k (c.turn_off_all.ensures.1 es h (λ q x. (d q x).1)) c.add_all.ensures.1,
    )

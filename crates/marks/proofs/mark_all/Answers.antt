use mathlib.Core.Path.{◌∙◌}
use native.Mathlib.Omega.{arith}
use Rattle.edge.specs.Layout.{edge_at}
use Rattle.paths.specs.Reading.{Spanned}
use Rattle.numbers.proofs.stages.SoundLaws.{spanned_at}
use Rattle.numbers.proofs.stages.MarkLaws.{marking_start, marking_turn, marking_end}
use Rattle.marks.proofs.ReadLaws.{marked_at, marked_set, marked_kept}
use Rattle.marks.proofs.mark_all.Goals as goal
use Rattle.marks.proofs.mark_all.Goals.{in-Some+then-place-lt-PLACES, in-Some+else-place-lt-PLACES, in_default}

pub loop-i-init : goal.loop-i-init
loop-i-init g c = λ test place a. marking_start test place c.requires.lent.2

pub offset_at-requires : goal.offset_at-requires
offset_at-requires g c = ((c.requires.lent.1.2.0, c.requires.lent.1.2.1), c.requires.lent.0, c.loop-i-test.true)

pub place_of-requires : goal.place_of-requires
place_of-requires g c =
    let l = c.requires.lent in
    c.requires.callable _ (spanned_at l.1.2.1 l.0 _ c.loop-i-test.true (c.offset_at.ensures _ l.1.2.1) l.1.2.2 l.1.1)

pub loop-i-preserved : goal.loop-i-preserved
loop-i-preserved g c =
    let l = c.requires.lent in
    let s : Spanned 256 c.args.work.now c.offset_at.result = spanned_at l.1.2.1 l.0 _ c.loop-i-test.true (c.offset_at.ensures _ l.1.2.1) l.1.2.2 l.1.1 in
    elim c.match-place_of.branch [
      | in-Some+then-place-lt-PLACES w ↦ λ test place a. marking_turn test place l.0 (c.loop-i.invariant test place a) a.inside c.loop-i-test.true c.offset_at.ensures (w.marks-is ∙ marked_set test place (edge_at c.args.work.now c.offset_at.result) (a.answers _ _ s c.place_of.ensures) c.loop-i.marks w.in-Some.is)
      | in-Some+else-place-lt-PLACES w ↦ λ test place a. absurd (omega (arith, marked_at test place (edge_at c.args.work.now c.offset_at.result) (a.answers _ _ s c.place_of.ensures) w.in-Some.is, a.inside (edge_at c.args.work.now c.offset_at.result) s.rises, s.within, w.if-place-lt-PLACES.false))
      | in_default w ↦ λ test place a. marking_turn test place l.0 (c.loop-i.invariant test place a) a.inside c.loop-i-test.true c.offset_at.ensures (w.marks-is ∙ marked_kept test place (edge_at c.args.work.now c.offset_at.result) (a.answers _ _ s c.place_of.ensures) c.loop-i.marks w.in_default.is)
    ]

pub returns : goal.returns
returns g c = λ test place a. marking_end test place c.requires.lent.0 (c.loop-i.invariant test place a) c.loop-i-test.false

use mathlib.Core.Path.{sym, ◌∙◌}
use Rattle.sheet_rows.proofs.CodeLaws.{put_length}
use Rattle.sheet.proofs.CodeLaws.{some_counted, none_counted, passed_none, passed_row, passed_end}
use Rattle.sheet.proofs.first.first_candidate.Goals as goal
use Rattle.sheet.proofs.first.first_candidate.Goals.{then-is_some, else-is_some}

pub loop-index-preserved : goal.loop-index-preserved
loop-index-preserved c =
    let (inv, twelve) = c.loop-index.invariant in
    let told = c.try_candidate.ensures.answer in
    let kept = put_length c.try_candidate.ensures.put ∙ twelve in
    elim c.if-is_some.branch [
      | then-is_some w ↦
          let (v, e) = some_counted c.loop-index.index told (sym c.is_some.ensures ∙ w.if-is_some.true) in
          rw w.rows-is (passed_row _ _ _ inv c.loop-index-test.true c.if-rows-position.false v e, kept)
      | else-is_some w ↦
          let e = none_counted c.loop-index.index told (sym c.is_some.ensures ∙ w.if-is_some.false) in
          rw w.rows-is (passed_none _ _ _ inv c.loop-index-test.true e, kept)
    ]

pub returns : goal.returns
returns c = passed_end _ _ _ c.loop-index.invariant.0 c.loop-index-test.false

-- `fraction_choices::choice_at` meets its contract: a marker ends within the line, so its neighbours are kept. Assumes nothing.
use mathlib.Core.Path.{ap, ◌∙◌}
use native.Mathlib.Omega.{arith}
use Rattle.text.specs.Text.{chars}
use Rattle.table.specs.Answers.{table_of}
use Rattle.numbers.specs.Fractions.{by_marker, outcome_at}
use Rattle.fraction_choices.specs.Decision.{size_of}
use Rattle.fraction_choices.proofs.MarkerLaws.{marker_fits}
use Rattle.fraction_choices.proofs.choice_at.Goals as goal

pub outcome_at-requires : goal.outcome_at-requires
outcome_at-requires c =
    let r = c.requires.0.1 in
    let w = chars c.args.line.now in
    let n = r.count in
    let few = r.few in
    let p = c.requires.3 in
    let e = ap size_of c.marker_at-marker.ensures in
    (c.requires.2, omega (arith, marker_fits w c.args.place.0 (omega arith) (table_of c.args.table.now c.args.shape)))

pub returns : goal.returns
unfolding outcome_at
returns c = λ es a. let m = c.outcome_at.ensures es a in (m.0 ∙ ap (by_marker es c.args.place.0) c.marker_at-marker.ensures, m.1)

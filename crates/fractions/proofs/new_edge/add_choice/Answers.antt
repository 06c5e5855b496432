-- `fractions::new_edge::add_choice` meets its contract, by the form. Assumes nothing.
use mathlib.Core.Path.{refl}
use Rattle.fraction_choices.specs.Choice.{outcome_of}
use Rattle.fractions.proofs.deactivate.KeepsLaws.{uses_percent, uses_fraction, uses_txt}
use Rattle.fractions.proofs.new_edge.FractionLaws.{makes_percent, makes_fraction, makes_txt, makes_nothing, full_stays}
use Rattle.fractions.proofs.new_edge.add_choice.Goals as goal

pub returns-then-lattice-eq0 : goal.returns-then-lattice-eq0
returns-then-lattice-eq0 c = (refl, λ n es o. full_stays o.has.holds c.if-lattice-eq0.true (outcome_of es c.args.place.0 c.args.choice))

pub returns-in_default : goal.returns-in_default
returns-in_default c = (refl, λ n es o. makes_nothing es _ c.in_default.is o.has.holds)

pub returns-in-Percent : goal.returns-in-Percent
returns-in-Percent c =
    let d = c.in-Some.is in
    let f = c.in-Percent.is in
    (c.add_percent.ensures.0, λ n es o. makes_percent es _ d f (c.add_percent.ensures.1 n es o.has (uses_percent o.valid d f)))

pub returns-in-Fraction : goal.returns-in-Fraction
returns-in-Fraction c =
    let d = c.in-Some.is in
    let f = c.in-Fraction.is in
    (c.add_fraction.ensures.0, λ n es o. makes_fraction es _ d f (c.add_fraction.ensures.1 n es o.has (uses_fraction o.valid d f).two))

pub returns-in-TxtPercent : goal.returns-in-TxtPercent
returns-in-TxtPercent c =
    let d = c.in-Some.is in
    let f = c.in-TxtPercent.is in
    (c.add_txt_percent.ensures.0, λ n es o. makes_txt es _ d f (c.add_txt_percent.ensures.1 n es o.has (uses_txt o.valid d f)))

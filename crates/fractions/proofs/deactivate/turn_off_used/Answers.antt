-- `fractions::deactivate::turn_off_used` meets its contract, by the form: no edge, both, or the right one. Assumes nothing.
use mathlib.Core.Path.{refl}
use mathlib.Core.Logic.{inl, inr}
use Rattle.fractions.proofs.deactivate.TurnedLaws.{off_none, off_right, off_percent, off_fraction}
use Rattle.fractions.proofs.deactivate.turn_off_used.Goals as goal

pub returns-in_default : goal.returns-in_default
returns-in_default c = (refl, λ es h. off_none es c.in_default.is h)

pub returns-in-Percent : goal.returns-in-Percent
returns-in-Percent c =
    let d = c.in-Some.is in (
      c.turn_off_both.ensures.0,
      λ es h. elim c.in-Percent.is [ inl e ↦ off_percent es d e (c.turn_off_both.ensures.1 es h) | inr e ↦ off_fraction es d e (c.turn_off_both.ensures.1 es h) ],
    )

pub returns-in-TxtPercent : goal.returns-in-TxtPercent
returns-in-TxtPercent c = (c.turn_off.ensures.0, λ es h. off_right es c.in-Some.is c.in-TxtPercent.is (c.turn_off.ensures.1 es h))

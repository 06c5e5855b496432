-- `fraction_choices::decision::outcome_at` meets its contract without a marker: nothing is made. Assumes nothing.
use mathlib.Core.Path.{refl}
use Rattle.fraction_choices.specs.Choice.{outcome_of}
use Rattle.fraction_choices.proofs.decision.DecisionLaws.{valid_none}
use Rattle.fraction_choices.proofs.decision.outcome_at.Goals as goal

pub returns-in_err-n : goal.returns-in_err-n
unfolding outcome_of
returns-in_err-n c = λ es a. rw (c.in_err-n.was, c.from_residual.ensures) (refl, valid_none es)

-- What the choices of all places lead to (fraction_choices/specs/Choices.antt has how the array holds them). Definitions only.
--     outcomes_of es cs p k         what the choices of the k places from p on lead to over the lattice es
--     used_by m                     the indices of the edges that the choice m uses; none where there is none
--     AllValid es cs n              each of the first n choices may stand over es
--     Assumes nothing.
use Rattle.std.specs.Prelude.{List, [], ◌∷◌, ℕ, zero, suc, ◌<◌, Option, Some, None}
use Rattle.edge.specs.Edge.{Edge}
use Rattle.numbers.specs.Fractions.{Outcome}
use Rattle.fraction_choices.specs.declared.decision.Form.{Form}
use Rattle.fraction_choices.specs.declared.decision.Form.TheVariants.{Percent, Fraction, TxtPercent}
use Rattle.fraction_choices.specs.declared.decision.Choice.{Choice}
use Rattle.fraction_choices.specs.Choice.{outcome_of, Valid}
use Rattle.fraction_choices.specs.Choices.{choice_at}

unfoldable pub outcomes_of : List Edge → List (Option Choice) → ℕ → ℕ → List Outcome
outcomes_of es cs p zero = []
outcomes_of es cs p (suc k) = outcome_of es p (choice_at cs p) ∷ outcomes_of es cs (suc p) k

-- the right edge, or both
abbrev pub used_with : Form → ℕ → ℕ → List ℕ
used_with Percent i j = i ∷ j ∷ []
used_with Fraction i j = i ∷ j ∷ []
used_with TxtPercent i j = j ∷ []

unfoldable pub used_by : Option Choice → List ℕ
used_by None = []
used_by (Some c) = used_with c.form c.left c.right

abbrev pub AllValid : List Edge → List (Option Choice) → ℕ → Type 0
AllValid es cs n = (p : ℕ) → p < n → Valid es (choice_at cs p)

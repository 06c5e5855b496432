-- The choices of all places, as the array of the code holds them. Definitions only.
--     choice_at cs p             the choice of place p, of an array of choices
--     Decided t w es cs n       the first n choices lead to what the definition says for the table t and the line's characters w over the lattice es,
--                               and may stand
--     Assumes nothing.
use Rattle.std.specs.Prelude.{◌≡◌, List, ℕ, ◌<◌, get_or, Option, None}
use Rattle.table.specs.Table.{Table}
use Rattle.edge.specs.Edge.{Edge}
use Rattle.numbers.specs.Fractions.{outcome_at}
use Rattle.fraction_choices.specs.declared.decision.Choice.{Choice}
use Rattle.fraction_choices.specs.Choice.{outcome_of, Valid}

abbrev pub choice_at : List (Option Choice) → ℕ → Option Choice
choice_at cs p = get_or cs p None

abbrev pub Decided : Table → List ℕ → List Edge → List (Option Choice) → ℕ → Type 0
Decided t w es cs n = (p : ℕ) → p < n → (outcome_of es p (choice_at cs p) ≡ outcome_at t w es p) × Valid es (choice_at cs p)

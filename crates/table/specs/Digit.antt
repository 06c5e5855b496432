-- The digit rule of a record by its parts (01, cause 5): what `digit_rule` of a record asks for. Definitions only.
--     digit_fine m v type rom   the rule for the type, and for the value v and the rom where the map m says that they are there
-- Assumes nothing.
use Rattle.std.specs.Prelude.{Bool, true, cond, ℕ}
use Rattle.table.specs.Table.{Text}
use Rattle.table.specs.Layout.{bit}
use Rattle.table.specs.Check.{is_digit_type, legal_digit}
use Rattle.table.specs.Answers.{optionally}

abbrev pub digit_fine : ℕ → ℕ → Text → Text → Bool
digit_fine m v type rom = cond (is_digit_type type) (legal_digit (optionally (bit m 1) v) (optionally (bit m 0) rom)) true

-- The content of a record's fields by its parts (01, cause 5): what `legal_record` asks for. Definitions only.
--     texts_fine m type rom script         the type is well-formed, and so are the rom and the script where the map m says that they are there
--     rest_fine head m v type rom script   these, the digit rule for the value v, and what is known of the code point and the numbers, head
-- Assumes nothing.
use Rattle.std.specs.Prelude.{Bool, ◌&&◌, ℕ}
use Rattle.text.specs.Text.{well_formed}
use Rattle.table.specs.Table.{Text}
use Rattle.table.specs.Layout.{bit}
use Rattle.table.specs.Check.{all_of}
use Rattle.table.specs.Answers.{optionally}
use Rattle.table.specs.Digit.{digit_fine}

abbrev pub texts_fine : ℕ → Text → Text → Text → Bool
texts_fine m type rom script = well_formed type && (all_of well_formed (optionally (bit m 0) rom) && all_of well_formed (optionally (bit m 5) script))

abbrev pub rest_fine : Bool → ℕ → ℕ → Text → Text → Text → Bool
rest_fine head m v type rom script = head && (digit_fine m v type rom && texts_fine m type rom script)

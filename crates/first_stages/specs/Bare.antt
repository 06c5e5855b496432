-- A line that no stage adds an edge to: none of its characters has a record or is an ASCII digit. Definitions only.
--     bare_char rs c   the code point c has no record among rs, and is no ASCII digit
--     bare rs w       so is each of the code points w
--     Assumes nothing.
use Rattle.std.specs.Prelude.{Bool, true, ◌&&◌, not, List, [], ◌∷◌, ℕ}
use Rattle.table.specs.Table.{Record, find, is_none}
use Rattle.numbers.specs.Fallback.{ascii_digit}

unfoldable pub bare_char : List Record → ℕ → Bool
bare_char rs c = not (ascii_digit c) && is_none (find rs c)

unfoldable pub bare : List Record → List ℕ → Bool
bare rs [] = true
bare rs (c ∷ w) = bare_char rs c && bare rs w

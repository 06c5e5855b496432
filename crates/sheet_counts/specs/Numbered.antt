-- Words by number, as the code walks them: a word's number is 0 for the empty word, and 16 n + r + 1 for the word of number n with the character of rank r
-- behind it. `proofs/NumberedLaws.antt` of `sheet` says that they are the proof sheet's words in their order. Definitions only.
--     word_of m n     the word of number n, where it has at most m characters
--     candidate i    the candidate at index i: the words of one to four characters, from 0 on
--     rows_in k i     how many of the k candidates from i on have a row
--     Assumes nothing.
use Rattle.std.specs.Prelude.{ℕ, zero, suc, ◌+◌, ◌/◌, ◌%◌, List, [], ◌∷◌, ◌++◌}
use Rattle.std.proofs.Math.Option.{Option, none, some}
use Rattle.grammar.specs.Plain.{Char}
use Rattle.sheet_rows.specs.Rows.{char_at, numeral_within}

unfoldable pub word_of : ℕ → ℕ → List Char
word_of zero n = []
word_of (suc m) zero = []
word_of (suc m) (suc n) = word_of m (n / 16) ++ (char_at (n % 16) ∷ [])

unfoldable pub candidate : ℕ → List Char
candidate i = word_of 4 (suc i)

abbrev pub one : Option ℕ → ℕ
one none = 0
one (some v) = 1

unfoldable pub rows_in : ℕ → ℕ → ℕ
rows_in zero i = 0
rows_in (suc k) i = one (numeral_within (candidate i)) + rows_in k (suc i)

-- Rows of a numeral, or a character, and its value (02, S-8 and S-10). Definitions only.
--     order             the sixteen characters, in the sheet's order; char_at r: the one at place r; rank c: the place of c in it
--     numeral_within w   the value of w, where w is a numeral of value at most TOP; number_of f: the same by the answer for a field (S-4)
--     rows_of f l        those of l that have a value by f, each with it, in their order
--     row_of t v         the row of a text and a value; row_bytes r: of a numeral and its value; rows_bytes rs: rows, one behind the other
--     Assumes nothing.
use Rattle.std.specs.Prelude.{ℕ, cond, List, [], ◌∷◌, ◌++◌, leb, get_or, Some, None, Result, Ok, Err}
use Rattle.std.proofs.Math.Option.{Option, none, some}
use Rattle.whole.specs.Whole.{TOP}
use Rattle.whole.specs.Decimal.{decimal}
use Rattle.grammar.specs.Plain.{Char, digit, ten, large, digit_value, utf8, 零, 一, 二, 三, 四, 五, 六, 七, 八, 九, 十, 百, 千, 万, 億, 兆}
use Rattle.numeral.specs.Numeral.{numeral_of}
use Rattle.std.specs.Prelude as std
use Rattle.numeral.specs.declared.FieldRefusal.{FieldRefusal}

-- "in the order 零 to 九, 十百千, 万億兆"
abbrev pub order : List Char
order =
    digit 零 ∷ digit 一 ∷ digit 二 ∷ digit 三 ∷ digit 四 ∷ digit 五 ∷ digit 六 ∷ digit 七 ∷ digit 八 ∷ digit 九
    ∷ ten 十 ∷ ten 百 ∷ ten 千 ∷ large 万 ∷ large 億 ∷ large 兆 ∷ []

abbrev pub char_at : ℕ → Char
char_at r = get_or order r (digit 零)

abbrev pub rank : Char → ℕ
rank (digit d) = digit_value d
rank (ten 十) = 10
rank (ten 百) = 11
rank (ten 千) = 12
rank (large 万) = 13
rank (large 億) = 14
rank (large 兆) = 15

-- ---- values

-- a "value .. at most TOP"
abbrev pub within_top : Option ℕ → Option ℕ
within_top none = none
within_top (some v) = cond (leb v TOP) (some v) none

unfoldable pub numeral_within : List Char → Option ℕ
numeral_within w = within_top (numeral_of w)

abbrev pub number_of : Result (std.Option ℕ) FieldRefusal → Option ℕ
number_of (Ok (Some v)) = some v
number_of (Err r) = none
number_of (Ok None) = none

-- ---- rows
module _ {A : Type 0} where
  abbrev pub row_if : A → Option ℕ → List (A × ℕ) → List (A × ℕ)
  row_if a none rs = rs
  row_if a (some v) rs = (a, v) ∷ rs

  unfoldable pub rows_of : (A → Option ℕ) → List A → List (A × ℕ)
  rows_of f [] = []
  rows_of f (a ∷ l) = row_if a (f a) (rows_of f l)

-- ---- as they are written

-- "A row is the numeral, a tab, the value in decimal and a newline."
abbrev pub row_of : List ℕ → ℕ → List ℕ
row_of t v = t ++ (9 ∷ (decimal v ++ (10 ∷ [])))

unfoldable pub row_bytes : List Char × ℕ → List ℕ
row_bytes r = row_of (utf8 r.0) r.1

unfoldable pub rows_bytes : List (List Char × ℕ) → List ℕ
rows_bytes [] = []
rows_bytes (r ∷ rs) = row_bytes r ++ rows_bytes rs

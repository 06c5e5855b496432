-- 01's marked lines, read from the left: numerals with their values, and lines that are none.
use mathlib.Core.Path.{◌≡◌, refl}
use mathlib.Core.List.{[], ◌∷◌}
use mathlib.Core.Option.{none, some}
use Rattle.grammar.specs.Plain.{digit, ten, large, 零, 一, 二, 五, 十, 百, 千, 万, 億}
use Rattle.numeral.specs.Numeral.{numeral_of}

pub numerals :
    (numeral_of (digit 一 ∷ ten 百 ∷ digit 零 ∷ digit 五 ∷ []) ≡ some 105)
    × (numeral_of (digit 二 ∷ ten 千 ∷ digit 五 ∷ []) ≡ some 2005)
    × (numeral_of (digit 一 ∷ large 万 ∷ digit 五 ∷ []) ≡ some 15000)
    × (numeral_of (digit 一 ∷ large 万 ∷ digit 零 ∷ digit 五 ∷ []) ≡ some 10005)
    × (numeral_of (digit 零 ∷ large 万 ∷ digit 五 ∷ []) ≡ some 5000)
    × (numeral_of (ten 百 ∷ digit 零 ∷ ten 十 ∷ []) ≡ some 110)
    × (numeral_of (large 億 ∷ large 万 ∷ []) ≡ some 100010000)
    × (numeral_of (digit 二 ∷ ten 百 ∷ large 万 ∷ []) ≡ some 2000000)
    × (numeral_of (digit 一 ∷ digit 二 ∷ ten 百 ∷ []) ≡ some 1200)
numerals = (refl, refl, refl, refl, refl, refl, refl, refl, refl)

pub others :
    (numeral_of [] ≡ none)
    × (numeral_of (digit 一 ∷ ten 百 ∷ digit 一 ∷ ten 百 ∷ []) ≡ none)
    × (numeral_of (large 万 ∷ large 億 ∷ []) ≡ none)
    × (numeral_of (digit 零 ∷ ten 百 ∷ []) ≡ none)
    × (numeral_of (ten 十 ∷ ten 十 ∷ []) ≡ none)
others = (refl, refl, refl, refl, refl)

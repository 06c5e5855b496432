-- Worn lines by computation: what serves in 百□ and 十□十; on both sides of TOP; where nothing does; lines without just one □.
use mathlib.Core.Path.{◌≡◌, refl}
use mathlib.Core.List.{[], ◌∷◌}
use mathlib.Core.Option.{none, some}
use Rattle.grammar.specs.Plain.{digit, ten, large, code_point, 零, 一, 二, 三, 四, 五, 六, 七, 八, 九, 十, 百, 万, 億, 兆}
use Rattle.numeral.specs.Field.{plain_among, plain_char, plain_line}
use Rattle.sheet_rows.specs.Rows.{numeral_within, rows_of}
use Rattle.worn.specs.Worn.{mark, cut, parts, worn_rows}

pub rows :
    -- 百□: not 百, not 千
    (worn_rows (ten 百 ∷ []) [] ≡ (digit 零, 100) ∷ (digit 一, 101) ∷ (digit 二, 102) ∷ (digit 三, 103) ∷ (digit 四, 104) ∷ (digit 五, 105) ∷ (digit 六, 106) ∷ (digit 七, 107) ∷ (digit 八, 108) ∷ (digit 九, 109)
    ∷ (ten 十, 110) ∷ (large 万, 1000000) ∷ (large 億, 10000000000) ∷ (large 兆, 100000000000000) ∷ [])
    -- 十□十
    × (worn_rows (ten 十 ∷ []) (ten 十 ∷ []) ≡ (large 万, 100010) ∷ (large 億, 1000000010) ∷ (large 兆, 10000000000010) ∷ [])
    -- TOP's digits, the last one worn: 二 would be above
    × (worn_rows (digit 九 ∷ digit 零 ∷ digit 零 ∷ digit 七 ∷ digit 一 ∷ digit 九 ∷ digit 九 ∷ digit 二 ∷ digit 五 ∷ digit 四 ∷ digit 七 ∷ digit 四 ∷ digit 零 ∷ digit 九 ∷ digit 九 ∷ []) []
    ≡ (digit 零, 9007199254740990) ∷ (digit 一, 9007199254740991) ∷ (ten 十, 9007199254740990) ∷ [])
    -- 十十□: nothing serves
    × (worn_rows (ten 十 ∷ ten 十 ∷ []) [] ≡ [])
unfolding worn_rows rows_of numeral_within
rows = (refl, refl, refl, refl)

-- □; 一□; no character, none; two □; x beside □
pub lines :
    (parts (mark ∷ []) ≡ some ([], []))
    × (parts (code_point (digit 一) ∷ mark ∷ []) ≡ some (digit 一 ∷ [], []))
    × (parts [] ≡ none)
    × (parts (code_point (digit 一) ∷ []) ≡ none)
    × (parts (mark ∷ mark ∷ []) ≡ none)
    × (parts (mark ∷ 0x78 ∷ []) ≡ none)
unfolding parts cut plain_line plain_char plain_among
lines = (refl, refl, refl, refl, refl, refl)

-- The formal characters as 02 writes them, and 01's marked lines in formal characters: theorems by computation.
--     read w   the answer for the line of the formal characters for w, read with the formal table
use Prim.Native.Char.{code}
use mathlib.Core.Path.{◌≡◌, refl}
use mathlib.Core.List.{List, [], ◌∷◌, map}
use Rattle.grammar.specs.Plain.{Char, digit, ten, large, 零, 一, 二, 三, 四, 五, 六, 七, 八, 九, 十, 百, 千, 万, 億, 兆, plain, plain_record}
use Rattle.grammar.proofs.Marked.{Answer, answer_with, Examples}
use Rattle.grammar.specs.OtherCharacters.{record_of, table_of}
use Rattle.grammar.specs.Formal.{formal_code, formal}

-- "壹貳參肆伍陸柒捌玖 for 一 to 九, 拾佰仟 for 十百千 and 萬 for 万 .. 零, 億, 兆 .. as they were"
pub characters :
    (map formal_code (digit 一 ∷ digit 二 ∷ digit 三 ∷ digit 四 ∷ digit 五 ∷ digit 六 ∷ digit 七 ∷ digit 八 ∷ digit 九 ∷ [])
    ≡ code "壹" ∷ code "貳" ∷ code "參" ∷ code "肆" ∷ code "伍" ∷ code "陸" ∷ code "柒" ∷ code "捌" ∷ code "玖" ∷ [])
    × (map formal_code (ten 十 ∷ ten 百 ∷ ten 千 ∷ []) ≡ code "拾" ∷ code "佰" ∷ code "仟" ∷ [])
    × (map formal_code (large 万 ∷ digit 零 ∷ large 億 ∷ large 兆 ∷ []) ≡ code "萬" ∷ code "零" ∷ code "億" ∷ code "兆" ∷ [])
characters = (refl, refl, refl)

abbrev pub read : List Char → Answer
read w = answer_with formal (map formal_code w)

pub marked : Examples read
unfolding answer_with formal table_of record_of plain plain_record
marked = (refl, refl, refl, refl, refl, refl, refl, refl, refl, refl, refl, refl, refl, refl)

-- The formal table (02, S-11). Its characters are named by those of the plain table that they stand for. Definitions only.
--     formal_code c     the code point of the formal character for c
--     formal_sixteen    the sixteen, in rising order of their formal code points
--     formal           the table
--     formal_bytes      its bytes in 01's form
--     Assumes nothing.
use Rattle.std.specs.Prelude.{ℕ, List, [], ◌∷◌}
use Rattle.table.specs.Table.{Table}
use Rattle.table.specs.TableBytes.{table_bytes}
use Rattle.grammar.specs.Plain.{Char, digit, ten, large, 零, 一, 二, 三, 四, 五, 六, 七, 八, 九, 十, 百, 千, 万, 億, 兆}
use Rattle.grammar.specs.OtherCharacters.{table_of}

-- "壹貳參肆伍陸柒捌玖 for 一 to 九, 拾佰仟 for 十百千 and 萬 for 万 .. 零, 億, 兆 .. as they were"
abbrev pub formal_code : Char → ℕ
formal_code (digit 零) = 0x96F6
formal_code (digit 一) = 0x58F9
formal_code (digit 二) = 0x8CB3
formal_code (digit 三) = 0x53C3
formal_code (digit 四) = 0x8086
formal_code (digit 五) = 0x4F0D
formal_code (digit 六) = 0x9678
formal_code (digit 七) = 0x67D2
formal_code (digit 八) = 0x634C
formal_code (digit 九) = 0x7396
formal_code (ten 十) = 0x62FE
formal_code (ten 百) = 0x4F70
formal_code (ten 千) = 0x4EDF
formal_code (large 万) = 0x842C
formal_code (large 億) = 0x5104
formal_code (large 兆) = 0x5146

-- the records are sorted by code point
abbrev pub formal_sixteen : List Char
formal_sixteen =
    ten 千 ∷ digit 五 ∷ ten 百 ∷ large 億 ∷ large 兆 ∷ digit 三 ∷ digit 一 ∷ ten 十 ∷ digit 八 ∷ digit 七 ∷ digit 九 ∷ digit 四 ∷ large 万 ∷ digit 二 ∷ digit 六 ∷ digit 零 ∷ []

unfoldable pub formal : Table
formal = table_of formal_code formal_sixteen

unfoldable pub formal_bytes : List ℕ
formal_bytes = table_bytes formal

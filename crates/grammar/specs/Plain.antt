-- The plain table (01, "Plain table"): its sixteen characters, its records. Definitions only.
--     Digit, Ten, Large   零 to 九; 十百千; 万億兆
--     Char                one of the sixteen
--     code_point c         its code point
--     plain_records        the records, in rising order of code points
--     plain               the table
--     utf8 w              the characters w in UTF-8
--     Assumes nothing.
use Rattle.std.specs.Prelude.{ℕ, Bool, true, false, List, [], ◌∷◌, ◌++◌, map}
use Rattle.std.proofs.Math.Option.{none, some}
use Rattle.table.specs.Table.{Text, Record, Table}
use Rattle.passes.specs.Passes.{digit_type, cjk}
use Rattle.text.specs.Sequence.{encode}
use Rattle.text.specs.Text.{encodes}
use Rattle.whole.specs.Decimal.{decimal}
use Rattle.table_grammar.specs.Grammar.{CharOf}
pub use Rattle.table_grammar.specs.Grammar.{digit, ten, large}

pub data Digit : Type 0 where
  零 一 二 三 四 五 六 七 八 九 : Digit

pub data Ten : Type 0 where
  十 百 千 : Ten

pub data Large : Type 0 where
  万 億 兆 : Large

abbrev pub Char : Type 0
Char = CharOf Digit Ten Large

abbrev pub digit_value : Digit → ℕ
digit_value 零 = 0
digit_value 一 = 1
digit_value 二 = 2
digit_value 三 = 3
digit_value 四 = 4
digit_value 五 = 5
digit_value 六 = 6
digit_value 七 = 7
digit_value 八 = 8
digit_value 九 = 9

abbrev pub ten_value : Ten → ℕ
ten_value 十 = 10
ten_value 百 = 100
ten_value 千 = 1000

abbrev pub large_value : Large → ℕ
large_value 万 = 10000
large_value 億 = 100000000
large_value 兆 = 1000000000000

abbrev pub code_point : Char → ℕ
code_point (digit 零) = 0x96F6
code_point (digit 一) = 0x4E00
code_point (digit 二) = 0x4E8C
code_point (digit 三) = 0x4E09
code_point (digit 四) = 0x56DB
code_point (digit 五) = 0x4E94
code_point (digit 六) = 0x516D
code_point (digit 七) = 0x4E03
code_point (digit 八) = 0x516B
code_point (digit 九) = 0x4E5D
code_point (ten 十) = 0x5341
code_point (ten 百) = 0x767E
code_point (ten 千) = 0x5343
code_point (large 万) = 0x4E07
code_point (large 億) = 0x5104
code_point (large 兆) = 0x5146

-- "digit", "base" and "large" in ASCII
abbrev pub type_of : Char → Text
type_of (digit d) = digit_type
type_of (ten t) = 98 ∷ 97 ∷ 115 ∷ 101 ∷ []
type_of (large l) = 108 ∷ 97 ∷ 114 ∷ 103 ∷ 101 ∷ []

abbrev pub char_value : Char → ℕ
char_value (digit d) = digit_value d
char_value (ten t) = ten_value t
char_value (large l) = large_value l

-- 1 for the digits, "the value for the last six"
abbrev pub char_base : Char → ℕ
char_base (digit d) = 1
char_base (ten t) = ten_value t
char_base (large l) = large_value l

abbrev pub is_large : Char → Bool
is_large (digit d) = false
is_large (ten t) = false
is_large (large l) = true

-- "rom is the value in decimal .. script cjk_bit"
unfoldable pub plain_record : Char → Record
plain_record c = record {
  code_point = code_point c;
  type = type_of c;
  rom = some (decimal (char_value c));
  value = some (char_value c);
  fraction = none;
  base = some (char_base c);
  mult = none;
  script = some cjk;
  large_power = is_large c;
}

-- in rising order of code points
abbrev pub sixteen : List Char
sixteen =
    digit 一 ∷ digit 七 ∷ large 万 ∷ digit 三 ∷ digit 九 ∷ digit 二 ∷ digit 五 ∷ large 億 ∷ large 兆 ∷ digit 八 ∷ digit 六 ∷ ten 十 ∷ ten 千 ∷ digit 四 ∷ ten 百 ∷ digit 零 ∷ []

unfoldable pub plain_records : List Record
plain_records = map plain_record sixteen

-- "Marker 百分之, connector 分之, signs + and -."
unfoldable pub plain : Table
plain = record {
  percentage_markers = (encode 0x767E ++ encode 0x5206 ++ encode 0x4E4B) ∷ [];
  fraction_connectors = (encode 0x5206 ++ encode 0x4E4B) ∷ [];
  plus_signs = (0x2B ∷ []) ∷ [];
  minus_signs = (0x2D ∷ []) ∷ [];
  records = plain_records;
}

-- the characters in UTF-8
unfoldable pub utf8 : List Char → List ℕ
utf8 w = encodes (map code_point w)

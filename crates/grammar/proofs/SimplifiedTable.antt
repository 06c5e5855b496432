-- A second renaming of the plain table: 〇 for 零, a gap character for a gap character, and 亿 for 億, as registers of the mainland write them. What is shown of any renaming
-- (`passes`, proofs/Twins.antt; `proofs/Carried.antt`) holds of it as of the formal table. It is an example: the library has no such table. Assumes nothing.
use Prim.Native.Nat.{ℕ}
use Prim.Native.Char.{code}
use mathlib.Core.Path.{◌≡◌, refl}
use mathlib.Core.List.{List, [], ◌∷◌}
use mathlib.Core.Option.{none, some}
use Rattle.table.specs.Table.{Table, find}
use Rattle.text.specs.Text.{chars}
use Rattle.passes.specs.Passes.{above_at}
use Rattle.passes.specs.Renaming.{gap_char, Renaming}
use Rattle.grammar.specs.Plain.{Char, digit, ten, large, 零, 一, 二, 三, 四, 五, 六, 七, 八, 九, 十, 百, 千, 万, 億, 兆, code_point, plain_record, plain, sixteen}
use Rattle.grammar.specs.OtherCharacters.{code_of, record_of, table_of}
use Rattle.grammar.proofs.Sixteen.{each}
use Rattle.grammar.proofs.Demand3.{Spells, SettledBy}
use Rattle.grammar.proofs.OtherTable.{Suits, plain_among, renaming}
use Rattle.grammar.proofs.Carried.{stands_for, carried_over}

abbrev pub simplified_code : Char → ℕ
simplified_code (digit 零) = code "〇"
simplified_code (large 億) = code "亿"
simplified_code (digit 一) = code_point (digit 一)
simplified_code (digit 二) = code_point (digit 二)
simplified_code (digit 三) = code_point (digit 三)
simplified_code (digit 四) = code_point (digit 四)
simplified_code (digit 五) = code_point (digit 五)
simplified_code (digit 六) = code_point (digit 六)
simplified_code (digit 七) = code_point (digit 七)
simplified_code (digit 八) = code_point (digit 八)
simplified_code (digit 九) = code_point (digit 九)
simplified_code (ten t) = code_point (ten t)
simplified_code (large 万) = code_point (large 万)
simplified_code (large 兆) = code_point (large 兆)

-- the records are sorted by code point
abbrev pub simplified_sixteen : List Char
simplified_sixteen =
    digit 零 ∷ digit 一 ∷ digit 七 ∷ large 万 ∷ digit 三 ∷ digit 九 ∷ digit 二 ∷ digit 五 ∷ large 億 ∷ large 兆 ∷ digit 八 ∷ digit 六 ∷ ten 十 ∷ ten 千 ∷ digit 四 ∷ ten 百 ∷ []

abbrev pub simplified : Table
simplified = table_of simplified_code simplified_sixteen

suits : Suits simplified_code simplified_sixteen
unfolding find table_of record_of plain_record
suits = record {
  found = each (λ c. find (table_of simplified_code simplified_sixteen).records (simplified_code c) ≡ some (record_of simplified_code c))
      (refl, refl, refl, refl, refl, refl, refl, refl, refl, refl, refl, refl, refl, refl, refl, refl);
  back = each (λ c. plain_among simplified_code sixteen (simplified_code c) ≡ code_point c)
      (refl, refl, refl, refl, refl, refl, refl, refl, refl, refl, refl, refl, refl, refl, refl, refl);
  gaps = each (λ c. gap_char (simplified_code c) ≡ gap_char (code_point c)) (refl, refl, refl, refl, refl, refl, refl, refl, refl, refl, refl, refl, refl, refl, refl, refl);
}

pub simplified_renaming : Renaming (code_of simplified_code) plain simplified
simplified_renaming = renaming simplified_code simplified_sixteen suits

pub simplified_demand3 : (line : List ℕ) (w : List Char) → Spells (stands_for (code_of simplified_code) simplified simplified_renaming) line w → above_at simplified (chars line) ≡ none
    → SettledBy simplified line w
simplified_demand3 = carried_over (code_of simplified_code) simplified simplified_renaming

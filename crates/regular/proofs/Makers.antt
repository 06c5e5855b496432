-- Demand 3 for the formal table, and for three tables that makers might bring: each is regular by computation, so that `RegularDemand3` of `table_grammar` holds of it, as it
-- does of the plain table (grammar's proofs/Demand3.antt).
--     table_with rs   the table of the records rs, without markers and signs: the passes ask for none
--     mainland       二 beside 两, 〇 beside 零, 亿 and 廿卅, which are 20 and 30 with the base 10
--     indian         digits of Latin and Devanagari, lakh (L) and crore (C) as large powers
--     ethiopic       digits 1 to 9, the tens with the base 10, 100, and 10000 as a large power
-- Assumes nothing.
use Prim.Native.Nat.{ℕ, ◌+◌}
use Prim.Native.Char.{code}
use mathlib.Core.Path.{◌≡◌, refl}
use mathlib.Core.Logic.{◌↔◌}
use mathlib.Core.Bool.{Bool, true, false}
use mathlib.Core.List.{List, [], ◌∷◌, ◌++◌}
use mathlib.Core.Option.{none, some}
use Rattle.text.specs.Bytes.{same}
use Rattle.text.specs.Text.{chars}
use Rattle.table.specs.Table.{Text, Record, Table}
use Rattle.whole.specs.Decimal.{decimal, decimal_within}
use Rattle.passes.specs.NumEdge.{NumEdge}
use Rattle.passes.specs.Passes.{digit_type, cjk}
use Rattle.grammar.specs.Plain.{plain_record}
use Rattle.grammar.specs.OtherCharacters.{record_of, table_of}
use Rattle.grammar.specs.Formal.{formal}
use Rattle.grammar.proofs.Marked.{answer_with, one}
use Rattle.table_grammar.specs.TableGrammar.{Reading}
use Rattle.table_grammar.proofs.RegularDemand3.{OneEdgeBy, SettledTable, regular_demand3, one_edge_where_valued}

-- ---- the formal table
pub formal_settled : (line : List ℕ) → SettledTable formal line
unfolding formal table_of record_of plain_record same
formal_settled = regular_demand3 formal refl

pub formal_one_edge : (line : List ℕ) → ((e : NumEdge) × OneEdgeBy formal line e) ↔ Reading formal (chars line)
unfolding formal table_of record_of plain_record same
formal_one_edge = one_edge_where_valued formal refl refl

-- ---- tables of makers
abbrev pub table_with : List Record → Table
table_with rs = record { percentage_markers = []; fraction_connectors = []; plus_signs = []; minus_signs = []; records = rs }

-- a record of a script, a code point and a type, with a value, a base, and whether it is a large power
abbrev pub row : Text → ℕ → Text → ℕ → ℕ → Bool → Record
row script c type v b large = record {
  code_point = c;
  type = type;
  rom = some (decimal v);
  value = some v;
  fraction = none;
  base = some b;
  mult = none;
  script = some script;
  large_power = large;
}

-- "base" and "large" in ASCII
abbrev pub base_type : Text
base_type = 98 ∷ 97 ∷ 115 ∷ 101 ∷ []

abbrev pub large_type : Text
large_type = 108 ∷ 97 ∷ 114 ∷ 103 ∷ 101 ∷ []

abbrev pub digit_row : Text → ℕ → ℕ → Record
digit_row script c v = row script c digit_type v 1 false

abbrev pub unit_row : Text → ℕ → ℕ → ℕ → Record
unit_row script c v b = row script c base_type v b false

abbrev pub large_row : Text → ℕ → ℕ → Record
large_row script c v = row script c large_type v v true

-- in rising order of code points, as in every table
abbrev pub mainland : Table
mainland = table_with (
    digit_row cjk (code "〇") 0 ∷ digit_row cjk (code "一") 1 ∷ digit_row cjk (code "七") 7 ∷ large_row cjk (code "万") 10000 ∷ digit_row cjk (code "三") 3
    ∷ digit_row cjk (code "两") 2 ∷ digit_row cjk (code "九") 9 ∷ digit_row cjk (code "二") 2 ∷ digit_row cjk (code "五") 5 ∷ large_row cjk (code "亿") 100000000
    ∷ digit_row cjk (code "八") 8 ∷ digit_row cjk (code "六") 6 ∷ unit_row cjk (code "十") 10 10 ∷ unit_row cjk (code "千") 1000 1000 ∷ unit_row cjk (code "卅") 30 10
    ∷ digit_row cjk (code "四") 4 ∷ unit_row cjk (code "廿") 20 10 ∷ unit_row cjk (code "百") 100 100 ∷ digit_row cjk (code "零") 0 ∷ [])

pub mainland_settled : (line : List ℕ) → SettledTable mainland line
unfolding same
mainland_settled = regular_demand3 mainland refl

-- "Latn", "Deva" and "Ethi" in ASCII
abbrev latin : Text
latin = 76 ∷ 97 ∷ 116 ∷ 110 ∷ []

abbrev devanagari : Text
devanagari = 68 ∷ 101 ∷ 118 ∷ 97 ∷ []

abbrev ethiopian : Text
ethiopian = 69 ∷ 116 ∷ 104 ∷ 105 ∷ []

-- ten digits from the code point c on
abbrev ten_digits : Text → ℕ → List Record
ten_digits s c =
    digit_row s c 0 ∷ digit_row s (c + 1) 1 ∷ digit_row s (c + 2) 2 ∷ digit_row s (c + 3) 3 ∷ digit_row s (c + 4) 4 ∷ digit_row s (c + 5) 5 ∷ digit_row s (c + 6) 6
    ∷ digit_row s (c + 7) 7 ∷ digit_row s (c + 8) 8 ∷ digit_row s (c + 9) 9 ∷ []

abbrev indian : Table
indian = table_with (ten_digits latin (code "0") ++ (large_row latin (code "C") 10000000 ∷ large_row latin (code "L") 100000 ∷ ten_digits devanagari (code "०")))

pub indian_settled : (line : List ℕ) → SettledTable indian line
unfolding same
indian_settled = regular_demand3 indian refl

abbrev ethiopic : Table
ethiopic = table_with (
    digit_row ethiopian 0x1369 1 ∷ digit_row ethiopian 0x136A 2 ∷ digit_row ethiopian 0x136B 3 ∷ digit_row ethiopian 0x136C 4 ∷ digit_row ethiopian 0x136D 5
    ∷ digit_row ethiopian 0x136E 6 ∷ digit_row ethiopian 0x136F 7 ∷ digit_row ethiopian 0x1370 8 ∷ digit_row ethiopian 0x1371 9 ∷ unit_row ethiopian 0x1372 10 10
    ∷ unit_row ethiopian 0x1373 20 10 ∷ unit_row ethiopian 0x1374 30 10 ∷ unit_row ethiopian 0x1375 40 10 ∷ unit_row ethiopian 0x1376 50 10
    ∷ unit_row ethiopian 0x1377 60 10 ∷ unit_row ethiopian 0x1378 70 10 ∷ unit_row ethiopian 0x1379 80 10 ∷ unit_row ethiopian 0x137A 90 10
    ∷ unit_row ethiopian 0x137B 100 100 ∷ large_row ethiopian 0x137C 10000 ∷ [])

pub ethiopic_settled : (line : List ℕ) → SettledTable ethiopic line
unfolding same
ethiopic_settled = regular_demand3 ethiopic refl

-- what their lines give, by computation: 廿五, 两亿〇五 and 三廿; 12C34L5, whose last digit counts as itself, since the script is not CJK, and the same with ५ and ६; ፳፭ and ፭፻፹
pub makers_lines :
    (answer_with mainland (code "廿" ∷ code "五" ∷ []) ≡ one 2 25)
    × (answer_with mainland (code "两" ∷ code "亿" ∷ code "〇" ∷ code "五" ∷ []) ≡ one 4 200000005)
    × (answer_with mainland (code "三" ∷ code "廿" ∷ []) ≡ one 2 60)
    × (answer_with indian (code "1" ∷ code "2" ∷ code "C" ∷ code "3" ∷ code "4" ∷ code "L" ∷ code "5" ∷ []) ≡ one 7 123400005)
    × (answer_with indian (code "1" ∷ code "2" ∷ code "C" ∷ code "3" ∷ code "4" ∷ code "L" ∷ code "५" ∷ code "६" ∷ []) ≡ one 8 123400056)
    × (answer_with ethiopic (0x1373 ∷ 0x136D ∷ []) ≡ one 2 25)
    × (answer_with ethiopic (0x136D ∷ 0x137B ∷ 0x1379 ∷ []) ≡ one 3 580)
unfolding answer_with decimal decimal_within
makers_lines = (refl, refl, refl, refl, refl, refl, refl)

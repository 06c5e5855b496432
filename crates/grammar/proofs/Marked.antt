-- The marked lines (01, "Marked lines") with the empty line, and the limits of refusal 7: one theorem by computation over the definitions, from the line's bytes to
-- the edges after G4.
--     answer_with t w   start, end and value of each edge after G4, of a line of the code points w read with the table t; or refusal 7 with its place
--     answer line   the same of a line's bytes and the plain table
--     read w        the answer for the line of the characters w
use Prim.Native.Nat.{ℕ}
use mathlib.Core.Path.{◌≡◌, refl}
use mathlib.Core.List.{List, [], ◌∷◌, ◌++◌, map}
use lib.ListN.{replicate}
use mathlib.Core.Option.{Option, none, some}
use Rattle.table.specs.Table.{Table, find}
use Rattle.text.specs.Text.{chars, decode, encodes}
use Rattle.text.specs.Sequence.{seq, encode}
use Rattle.whole.specs.Decimal.{decimal, decimal_within}
use Rattle.passes.specs.Chains.{from, chains}
use Rattle.text.specs.Bytes.{same}
use Rattle.passes.specs.NumEdge.{NumEdge, first_above}
use Rattle.passes.specs.Characters.{char_edges, char_edge}
use Rattle.passes.specs.Passes.{fifth_list, above_at, through, added_by, after, added, chains_of, joined_of, next, joined, over, over_digits, d1_rule, g1_rule, g2_rule, g3_rule, g4_rule, digit_edge, gap, nearest, begin, longer, retags, counted_value, counted_base, power_of_ten, power_within}
use Rattle.grammar.specs.Plain.{Char, digit, ten, large, code_point, plain, plain_records, plain_record, 零, 一, 二, 四, 五, 七, 九, 十, 百, 千, 万, 億}

pub data Answer : Type 0 where
  Edges : List (ℕ × ℕ × Option ℕ) → Answer
  Refused7 : ℕ → Answer

abbrev pub answer_of : List NumEdge → Option ℕ → Answer
answer_of es none = Edges (map (λ (e : NumEdge). (e.start, e.end, e.value)) es)
answer_of es (some place) = Refused7 place

unfoldable pub answer_with : Table → List ℕ → Answer
unfolding through added_by after added chains_of joined_of next joined over over_digits d1_rule g1_rule g2_rule g3_rule g4_rule digit_edge gap nearest begin longer retags counted_value counted_base power_of_ten power_within from chains first_above char_edges char_edge find same encode decimal decimal_within
answer_with t w = answer_of (fifth_list t w) (above_at t w)

pub answer : List ℕ → Answer
unfolding answer_with chars decode seq plain plain_records plain_record
answer line = answer_with plain (chars line)

-- the answer for the characters w
pub read : List Char → Answer
unfolding answer encodes encode
read w = answer (encodes (map code_point w))

-- the edge over the first n characters, of value v
abbrev pub one : ℕ → ℕ → Answer
one n v = Edges ((0, n, some v) ∷ [])

-- an edge over the first m characters and one over those from there to n, of values u and v
abbrev pub two : ℕ → ℕ → ℕ → ℕ → Answer
two m u n v = Edges ((0, m, some u) ∷ (m, n, some v) ∷ [])

-- the code point of 九, n times
unfoldable pub nines : ℕ → List ℕ
nines n = replicate n 0x4E5D

-- the marked lines and the empty one, for any way to read a line of characters
abbrev pub Examples : (List Char → Answer) → Type 0
Examples read =
    (read (digit 一 ∷ ten 百 ∷ digit 零 ∷ digit 五 ∷ []) ≡ one 4 105)
    × (read (digit 二 ∷ ten 千 ∷ digit 五 ∷ []) ≡ one 3 2005)
    × (read (digit 一 ∷ large 万 ∷ digit 五 ∷ []) ≡ one 3 15000)
    × (read (digit 一 ∷ large 万 ∷ digit 零 ∷ digit 五 ∷ []) ≡ one 4 10005)
    × (read (digit 零 ∷ large 万 ∷ digit 五 ∷ []) ≡ one 3 5000)
    × (read (ten 百 ∷ digit 零 ∷ ten 十 ∷ []) ≡ one 3 110)
    × (read (large 億 ∷ large 万 ∷ []) ≡ one 2 100010000)
    × (read (digit 二 ∷ ten 百 ∷ large 万 ∷ []) ≡ one 3 2000000)
    × (read (digit 一 ∷ digit 二 ∷ ten 百 ∷ []) ≡ one 3 1200)
    × (read (digit 一 ∷ ten 百 ∷ digit 一 ∷ ten 百 ∷ []) ≡ two 2 100 4 100)
    × (read (large 万 ∷ large 億 ∷ []) ≡ two 1 10000 2 100000000)
    × (read (digit 零 ∷ ten 百 ∷ []) ≡ two 1 0 2 100)
    × (read (ten 十 ∷ ten 十 ∷ []) ≡ two 1 10 2 10)
    × (read [] ≡ Edges [])

pub marked :
    Examples read
    × (read (digit 九 ∷ digit 零 ∷ digit 零 ∷ digit 七 ∷ digit 一 ∷ digit 九 ∷ digit 九 ∷ digit 二 ∷ digit 五 ∷ digit 四 ∷ digit 七 ∷ digit 四 ∷ digit 零 ∷ digit 九 ∷ digit 九 ∷ digit 一 ∷ []) ≡ one 16 9007199254740991)
    × (read (digit 九 ∷ digit 零 ∷ digit 零 ∷ digit 七 ∷ digit 一 ∷ digit 九 ∷ digit 九 ∷ digit 二 ∷ digit 五 ∷ digit 四 ∷ digit 七 ∷ digit 四 ∷ digit 零 ∷ digit 九 ∷ digit 九 ∷ digit 二 ∷ []) ≡ Refused7 0)
unfolding read
marked = ((refl, refl, refl, refl, refl, refl, refl, refl, refl, refl, refl, refl, refl, refl), refl, refl)

-- "in pass order": 九 × 15, 千, x, 九 × 17 is refused at 17, where D1 makes the first value above TOP, though G1 makes one that starts before it
pub pass_order : answer (encodes (nines 15 ++ (0x5343 ∷ 0x78 ∷ nines 17))) ≡ Refused7 17
unfolding answer nines encodes encode
pass_order = refl

-- The call with decimals on lines with a point, by computation: its stages after the passes, and the bytes of a listing (02, S-13).
--     rows w     start, end, txt, whether it is active (none: regular) and decimals of each edge of the finished lattice
use Prim.Native.Nat.{ℕ}
use mathlib.Core.Path.{◌≡◌, refl}
use mathlib.Core.Bool.{Bool, true, false}
use mathlib.Core.List.{List, [], ◌∷◌, ◌++◌, map}
use mathlib.Core.Option
use mathlib.Core.Option.{Option, none, some}
use lib.Ieee.{to_bits, of_bits, of_int, to_unsigned, div}
use Rattle.text.specs.Bytes.{same}
use Rattle.text.specs.Text.{chars, decode, encodes}
use Rattle.text.specs.Sequence.{seq, encode}
use Rattle.whole.specs.Whole.{of_nat}
use Rattle.whole.specs.Decimal.{decimal, decimal_within}
use Rattle.decimals.specs.Quotient.{quotient}
use Rattle.fields.specs.Fields.{bytes_of}
use Rattle.digits.specs.Digits.{is_digit, in_runs, starts}
use Rattle.digits.specs.TextEnds.{first_is_digit, last_is_digit}
use Rattle.table.specs.Table.{Text, Table, find}
use Rattle.passes.specs.NumEdge.{first_above}
use Rattle.passes.specs.Chains.{from, chains}
use Rattle.passes.specs.Characters.{char_edges, char_edge, lowest, gcd, gcd_within}
use Rattle.passes.specs.Passes as passes
use Rattle.passes.specs.Passes.{joined, over, over_digits, d1_rule, g1_rule, g2_rule, g3_rule, g4_rule, digit_edge, gap, nearest, longer, retags, counted_value, counted_base, power_of_ten, power_within}
use Rattle.passes.specs.DecimalPasses.{through, added_by, after, added, chains_of, joined_of, next, next_digit, next_later, joins_digit, joins_point, with_point, decimal_rule, takes_decimal, decimal_product, begin, point_at}
use Rattle.edge.specs.Edge.{Edge, Numeric, f64_bits, str, head_bytes, numeric_bytes, numeric_map, edge_bytes, edges_bytes, listing_bytes}
use Rattle.lattice.specs.Lattice.{overfull, same_key, has, add, add_all, inactive, turn_off_at, turn_off}
use Rattle.paths.specs.Best.{starts_with, regular_class, class, asked, score, highest, first_of, best, numbered}
use Rattle.grammar.specs.Plain.{plain, plain_records, plain_record}
use Rattle.numbers.specs.Listed.{listed_edge, listed_decimal, whole_value}
use Rattle.numbers.specs.Folded.{fold}
use Rattle.numbers.specs.Fractions.{stands_at, longest, marker_at, fraction_edge, marked, outcome_at, outcomes_from, new_edges, used_edges, fractions}
use Rattle.numbers.specs.Signs.{signed, signs}
use Rattle.numbers.specs.Separators.{ends_before, apart, copy_of, copies, separate}
use Rattle.numbers.specs.Fallback.{covered, fallback}
use Rattle.numbers.specs.Call.{decimal_lattice, decimal_after_checks, refused}

-- the plain table's records, with the marker %, the connector 分之 and the signs + and -
unfoldable marks : Table
marks = record {
  percentage_markers = (37 ∷ []) ∷ [];
  fraction_connectors = (encode 0x5206 ++ encode 0x4E4B) ∷ [];
  plus_signs = (43 ∷ []) ∷ [];
  minus_signs = (45 ∷ []) ∷ [];
  records = plain_records;
}

abbrev decimals_of : Option Numeric → Option ℕ
decimals_of none = none
decimals_of (some n) = n.decimals

abbrev row : Edge → ℕ × ℕ × Text × Option Bool × Option ℕ
row e = (e.start, e.end, e.txt, Option.map (λ (n : Numeric). n.active) e.num, decimals_of e.num)

unfoldable pub rows : List ℕ → List (ℕ × ℕ × Text × Option Bool × Option ℕ)
unfolding marks decimal_lattice fractions outcomes_from outcome_at marked marker_at longest stands_at fold new_edges used_edges fraction_edge signs signed separate copies copy_of apart ends_before fallback covered f64_bits listed_edge listed_decimal whole_value starts_with regular_class class asked score highest first_of best numbered same_key has add add_all inactive turn_off_at turn_off plain_records plain_record quotient through added_by after added chains_of joined_of next next_digit next_later joins_digit joins_point with_point decimal_rule takes_decimal decimal_product begin point_at passes.next passes.begin joined over over_digits d1_rule g1_rule g2_rule g3_rule g4_rule digit_edge gap nearest longer retags counted_value counted_base power_of_ten power_within char_edges char_edge lowest gcd gcd_within from chains first_is_digit last_is_digit is_digit in_runs starts decimal decimal_within of_nat seq encode chars decode encodes same find to_bits of_bits of_int to_unsigned div
rows w = map row (decimal_lattice marks w [])

pub stages :
    -- 百%1.5: the percentage marker takes its txt, "1.5%" from the marker on, and 百 is untouched
    (rows (0x767E ∷ 0x25 ∷ 0x4E00 ∷ 0x2E ∷ 0x4E94 ∷ []) ≡ (0, 1, 49 ∷ 48 ∷ 48 ∷ [], some true, none)
    ∷ (2, 3, 49 ∷ [], some true, none)
    ∷ (4, 5, 53 ∷ [], some true, none)
    ∷ (2, 5, 49 ∷ 46 ∷ 53 ∷ [], some false, some 1)
    ∷ (1, 5, 49 ∷ 46 ∷ 53 ∷ 37 ∷ [], none, none) ∷ [])
    -- 1分之2.5 gives nothing: the right neighbour is 2.5
    × (rows (0x4E00 ∷ 0x5206 ∷ 0x4E4B ∷ 0x4E8C ∷ 0x2E ∷ 0x4E94 ∷ []) ≡ (0, 1, 49 ∷ [], some true, none)
    ∷ (3, 4, 50 ∷ [], some true, none)
    ∷ (5, 6, 53 ∷ [], some true, none)
    ∷ (3, 6, 50 ∷ 46 ∷ 53 ∷ [], some true, some 1) ∷ [])
    -- nor does 100.0分之3
    × (rows (0x4E00 ∷ 0x96F6 ∷ 0x96F6 ∷ 0x2E ∷ 0x96F6 ∷ 0x5206 ∷ 0x4E4B ∷ 0x4E09 ∷ []) ≡ (0, 1, 49 ∷ [], some true, none)
    ∷ (1, 2, 48 ∷ [], some false, none)
    ∷ (2, 3, 48 ∷ [], some false, none)
    ∷ (4, 5, 48 ∷ [], some true, none)
    ∷ (7, 8, 51 ∷ [], some true, none)
    ∷ (0, 5, 49 ∷ 48 ∷ 48 ∷ 46 ∷ 48 ∷ [], some true, some 1)
    ∷ (1, 2, 194 ∷ 183 ∷ 48 ∷ [], some true, none)
    ∷ (2, 3, 194 ∷ 183 ∷ 48 ∷ [], some true, none) ∷ [])
    -- G6 uses its txt: "-1.5", type "D1 -"
    × (rows (0x2D ∷ 0x4E00 ∷ 0x2E ∷ 0x4E94 ∷ []) ≡ (1, 2, 49 ∷ [], some true, none)
    ∷ (3, 4, 53 ∷ [], some true, none)
    ∷ (1, 4, 49 ∷ 46 ∷ 53 ∷ [], some true, some 1)
    ∷ (0, 4, 45 ∷ 49 ∷ 46 ∷ 53 ∷ [], none, none) ∷ [])
    -- F1: the copy ·1.5 keeps its decimals
    × (rows (0x767E ∷ 0x4E00 ∷ 0x2E ∷ 0x4E94 ∷ []) ≡ (0, 1, 49 ∷ 48 ∷ 48 ∷ [], some true, none)
    ∷ (1, 2, 49 ∷ [], some false, none)
    ∷ (3, 4, 53 ∷ [], some true, none)
    ∷ (1, 4, 49 ∷ 46 ∷ 53 ∷ [], some false, some 1)
    ∷ (1, 2, 194 ∷ 183 ∷ 49 ∷ [], some true, none)
    ∷ (1, 4, 194 ∷ 183 ∷ 49 ∷ 46 ∷ 53 ∷ [], some true, some 1) ∷ [])
unfolding rows
stages = (refl, refl, refl, refl, refl)

-- the listing of 一.五: the digits 1 and 5, then D1's edge with map 0x3AB, value 1.5, value_s "1.5", and behind it the count 1
pub listing_bytes_lem : listing_bytes (decimal_lattice plain (0x4E00 ∷ 0x2E ∷ 0x4E94 ∷ []) []) ≡
    3 ∷ 0 ∷ 171 ∷ 0 ∷ 0 ∷ 0 ∷ 1 ∷ 0 ∷ 5 ∷ 0 ∷ 100 ∷ 105 ∷ 103 ∷ 105 ∷ 116 ∷ 1 ∷ 0 ∷ 49 ∷ 3 ∷ 0 ∷ 228 ∷ 184 ∷ 128 ∷ 0 ∷ 0 ∷ 0 ∷ 0 ∷ 0 ∷ 0 ∷ 240 ∷ 63 ∷ 1 ∷ 0 ∷ 0 ∷ 0 ∷ 0 ∷ 0 ∷ 0 ∷ 0 ∷ 3 ∷ 0 ∷ 67 ∷ 74 ∷ 75 ∷ 171 ∷ 0 ∷ 2 ∷ 0 ∷ 3 ∷ 0 ∷ 5 ∷ 0 ∷ 100 ∷ 105 ∷ 103 ∷ 105 ∷ 116 ∷ 1 ∷ 0 ∷ 53 ∷ 3 ∷ 0 ∷ 228 ∷ 186 ∷ 148 ∷ 0 ∷ 0 ∷ 0 ∷ 0 ∷ 0 ∷ 0 ∷ 20 ∷ 64 ∷ 1 ∷ 0 ∷ 0 ∷ 0 ∷ 0 ∷ 0 ∷ 0 ∷ 0 ∷ 3 ∷ 0 ∷ 67 ∷ 74 ∷ 75 ∷ 171 ∷ 3 ∷ 0 ∷ 0 ∷ 3 ∷ 0 ∷ 2 ∷ 0 ∷ 68 ∷ 49 ∷ 3 ∷ 0 ∷ 49 ∷ 46 ∷ 53 ∷ 7 ∷ 0 ∷ 228 ∷ 184 ∷ 128 ∷ 46 ∷ 228 ∷ 186 ∷ 148 ∷ 0 ∷ 0 ∷ 0 ∷ 0 ∷ 0 ∷ 0 ∷ 248 ∷ 63 ∷ 1 ∷ 0 ∷ 0 ∷ 0 ∷ 0 ∷ 0 ∷ 0 ∷ 0 ∷ 3 ∷ 0 ∷ 67 ∷ 74 ∷ 75 ∷ 3 ∷ 0 ∷ 49 ∷ 46 ∷ 53 ∷ 1 ∷ []
unfolding listing_bytes edges_bytes edge_bytes head_bytes numeric_bytes numeric_map str bytes_of plain decimal_lattice fractions outcomes_from outcome_at marked marker_at longest stands_at fold new_edges used_edges fraction_edge signs signed separate copies copy_of apart ends_before fallback covered f64_bits listed_edge listed_decimal whole_value starts_with regular_class class asked score highest first_of best numbered same_key has add add_all inactive turn_off_at turn_off plain_records plain_record quotient through added_by after added chains_of joined_of next next_digit next_later joins_digit joins_point with_point decimal_rule takes_decimal decimal_product begin point_at passes.next passes.begin joined over over_digits d1_rule g1_rule g2_rule g3_rule g4_rule digit_edge gap nearest longer retags counted_value counted_base power_of_ten power_within char_edges char_edge lowest gcd gcd_within from chains first_is_digit last_is_digit is_digit in_runs starts decimal decimal_within of_nat seq encode chars decode encodes same find to_bits of_bits of_int to_unsigned div
listing_bytes_lem = refl

-- "7 covers the digits too": 9.007199254740992 is above TOP without its point, and 9.007199254740991 is not
pub sevens :
    (decimal_after_checks plain (0x4E5D ∷ 0x2E ∷ 0x96F6 ∷ 0x96F6 ∷ 0x4E03 ∷ 0x4E00 ∷ 0x4E5D ∷ 0x4E5D ∷ 0x4E8C ∷ 0x4E94 ∷ 0x56DB ∷ 0x4E03 ∷ 0x56DB ∷ 0x96F6 ∷ 0x4E5D ∷ 0x4E5D ∷ 0x4E8C ∷ []) 0 [] ≡ refused 7 0)
    × (decimal_after_checks plain (0x4E5D ∷ 0x2E ∷ 0x96F6 ∷ 0x96F6 ∷ 0x4E03 ∷ 0x4E00 ∷ 0x4E5D ∷ 0x4E5D ∷ 0x4E8C ∷ 0x4E94 ∷ 0x56DB ∷ 0x4E03 ∷ 0x56DB ∷ 0x96F6 ∷ 0x4E5D ∷ 0x4E5D ∷ 0x4E00 ∷ []) 0 [] ≡ refused 8 0)
unfolding decimal_after_checks overfull first_above listing_bytes edges_bytes edge_bytes head_bytes numeric_bytes numeric_map str bytes_of plain decimal_lattice fractions outcomes_from outcome_at marked marker_at longest stands_at fold new_edges used_edges fraction_edge signs signed separate copies copy_of apart ends_before fallback covered f64_bits listed_edge listed_decimal whole_value starts_with regular_class class asked score highest first_of best numbered same_key has add add_all inactive turn_off_at turn_off plain_records plain_record quotient through added_by after added chains_of joined_of next next_digit next_later joins_digit joins_point with_point decimal_rule takes_decimal decimal_product begin point_at passes.next passes.begin joined over over_digits d1_rule g1_rule g2_rule g3_rule g4_rule digit_edge gap nearest longer retags counted_value counted_base power_of_ten power_within char_edges char_edge lowest gcd gcd_within from chains first_is_digit last_is_digit is_digit in_runs starts decimal decimal_within of_nat seq encode chars decode encodes same find to_bits of_bits of_int to_unsigned div
sevens = (refl, refl)

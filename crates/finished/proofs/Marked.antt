-- Marked lines (01, "Marked lines") through the whole call, by computation: with the plain table's bytes and no given edge, in the work space that 01 asks and an output that
-- is long enough, 一万五, 一万零五 and 百分之五 are answered by these listings. So what `Demand3.antt` says holds of something.
--     marked_listings   the three listings
--     marked_value      what demand 3 says of the first: its edge over the line holds 15000
use Prim.Native.Nat.{ℕ, suc}
use mathlib.Core.Path.{◌≡◌, refl, subst}
use mathlib.Core.Bool.{Bool, true, false}
use mathlib.Core.List.{List, [], ◌∷◌, ◌++◌, map}
use mathlib.Core.Option.{Option, none, some}
use lib.Ieee.{to_bits, of_bits, of_int, to_unsigned}
use Rattle.text.specs.Bytes.{same}
use Rattle.text.specs.Text.{chars, decode, left, encodes}
use Rattle.text.specs.Sequence.{seq, encode}
use Rattle.whole.specs.Whole.{of_nat}
use Rattle.whole.specs.Decimal.{decimal, decimal_within}
use Rattle.fields.specs.Fields.{le, le_at, bytes_of}
use Rattle.fields.specs.Part.{part}
use Rattle.digits.specs.Digits.{is_digit, in_runs, starts}
use Rattle.digits.specs.TextEnds.{first_is_digit, last_is_digit}
use Rattle.table.specs.Table.{Text, find}
use Rattle.table.specs.Layout.{number, text_of, text, fraction, optional, read_numbers, read_fields, read_record}
use Rattle.table.specs.Check.{item, all_of, legal_mark, legal_digit, legal_code_point, legal_texts, legal_numbers, digit_rule, legal_record, read_texts, read_list, read_records, read_table}
use Rattle.table.specs.TableBytes.{string, in_row, list, map_of, record_bytes, table_bytes}
use Rattle.passes.specs.Chains.{from, chains}
use Rattle.passes.specs.NumEdge.{NumEdge, first_above}
use Rattle.passes.specs.Characters.{char_edges, char_edge, lowest, gcd, gcd_within}
use Rattle.passes.specs.Passes.{D1, G3, G4, pass_name, cjk, through, added_by, after, added, chains_of, joined_of, next, joined, over, over_digits, d1_rule, g1_rule, g2_rule, g3_rule, g4_rule, digit_edge, gap, nearest, begin, longer, retags, counted_value, counted_base, power_of_ten, power_within}
use Rattle.edge.specs.Edge.{Edge, f64_bits, numeric_map, numeric_bytes, str, head_bytes, edge_bytes, edges_bytes, listing_bytes}
use Rattle.edge.specs.Layout.{edges_at, next_at, edge_at, string_end, listed}
use Rattle.edge.specs.Check.{check_listing, check_edges, good}
use Rattle.edge.specs.Write.{regular}
use Rattle.lattice.specs.Lattice.{same_key, has, add, add_all, inactive, turn_off_at, turn_off, overfull}
use Rattle.paths.specs.Best.{starts_with, regular_class, class, asked, score, highest, first_of, best, numbered}
use Rattle.grammar.specs.Plain.{Char, digit, ten, large, 零, 一, 五, 百, 万, code_point, type_of, char_value, char_base, is_large, plain, plain_records, plain_record}
use Rattle.grammar.specs.PlainBytes.{plain_bytes}
use Rattle.grammar.proofs.Demand3.{line_of, OneEdge}
use Rattle.grammar.proofs.MarkedReadings.{numerals}
use Rattle.numbers.specs.Listed.{listed_edge, whole_value}
use Rattle.numbers.specs.Folded.{fold}
use Rattle.numbers.specs.Fractions.{percentage_type, stands_at, longest, marker_at, fraction_edge, marked, outcome_at, outcomes_from, new_edges, used_edges, fractions}
use Rattle.numbers.specs.Signs.{signed, signs}
use Rattle.numbers.specs.Separators.{ends_before, apart, copy_of, copies, separate}
use Rattle.numbers.specs.Fallback.{covered, fallback}
use Rattle.numbers.specs.Call.{Answer, no_edges, listing, after_passes, after_signs, lattice_by, after_checks, answer_by, add_numbers}
use Rattle.finished.specs.Keyed.{keyed, HoldsValue}
use Rattle.finished.proofs.Readable.{no_edges_bytes}
use Rattle.finished.proofs.Demand3.{Answered, answered}

-- the numeric edge from place a to place z over the characters w, of value v and base b
abbrev edge : ℕ → ℕ → Text → Text → List Char → ℕ → ℕ → Bool → Bool → Option Text → Edge
edge a z type txt w v b power active value_s = record {
  start = a;
  end = z;
  type = type;
  txt = txt;
  num = some (record {
    orig = encodes (map code_point w);
    value = some (f64_bits v);
    fraction = none;
    base = some b;
    mult = none;
    script = some cjk;
    large = power;
    active = active;
    value_s = value_s;
    decimals = none;
  });
}

-- the character c at place i; before: what F1 puts before the txt of its copy
abbrev char : Text → Bool → ℕ → Char → Edge
char before active i c = edge i (suc i) (type_of c) (before ++ decimal (char_value c)) (c ∷ []) (char_value c) (char_base c) (is_large c) active none

-- U+00B7
abbrev dot : Text
dot = 0xC2 ∷ 0xB7 ∷ []

-- the digits 零五: "05"
abbrev zero_five : Text → Bool → Edge
zero_five before active = edge 2 4 (pass_name D1) (before ++ (48 ∷ 53 ∷ [])) (digit 零 ∷ digit 五 ∷ []) 5 1 false active (some (48 ∷ 53 ∷ []))

-- the answer for the line of the code points w
abbrev pub answer : List ℕ → Answer
answer w = add_numbers (encodes w) plain_bytes no_edges 65536 32768

-- 一万五: its edges by the passes, then the copies of 万 and 五, whose originals are inactive
abbrev pub fifteen_thousand : List Edge
fifteen_thousand =
    char [] true 0 (digit 一) ∷ char [] false 1 (large 万) ∷ char [] false 2 (digit 五)
    ∷ edge 0 2 (pass_name G3) (decimal 10000) (digit 一 ∷ large 万 ∷ []) 10000 10000 true true none
    ∷ edge 0 3 (pass_name G4) (decimal 15000) (digit 一 ∷ large 万 ∷ digit 五 ∷ []) 15000 1000 false true none
    ∷ char dot true 1 (large 万) ∷ char dot true 2 (digit 五) ∷ []

-- 一万零五
abbrev pub ten_thousand_five : List Edge
ten_thousand_five =
    char [] true 0 (digit 一) ∷ char [] false 1 (large 万) ∷ char [] false 2 (digit 零) ∷ char [] false 3 (digit 五)
    ∷ zero_five [] false
    ∷ edge 0 2 (pass_name G3) (decimal 10000) (digit 一 ∷ large 万 ∷ []) 10000 10000 true true none
    ∷ edge 0 4 (pass_name G4) (decimal 10005) (digit 一 ∷ large 万 ∷ digit 零 ∷ digit 五 ∷ []) 10005 1 false true none
    ∷ char dot true 1 (large 万) ∷ char dot true 2 (digit 零) ∷ char dot true 3 (digit 五) ∷ zero_five dot true ∷ []

-- 百分之五: both numbers are used, and the percentage is regular
abbrev pub five_percent : List Edge
five_percent = char [] false 0 (ten 百) ∷ char [] false 3 (digit 五) ∷ regular 0 4 percentage_type (53 ∷ 37 ∷ []) ∷ []

pub marked_listings :
    (answer (map code_point (digit 一 ∷ large 万 ∷ digit 五 ∷ [])) ≡ listing (listing_bytes fifteen_thousand))
    × (answer (map code_point (digit 一 ∷ large 万 ∷ digit 零 ∷ digit 五 ∷ [])) ≡ listing (listing_bytes ten_thousand_five))
    × (answer (0x767E ∷ 0x5206 ∷ 0x4E4B ∷ 0x4E94 ∷ []) ≡ listing (listing_bytes five_percent))
unfolding answer_by after_checks lattice_by after_passes after_signs fractions outcomes_from outcome_at marked marker_at longest stands_at fold new_edges used_edges fraction_edge signs signed separate copies copy_of apart ends_before fallback covered f64_bits listed_edge whole_value starts_with regular_class class asked score highest first_of best numbered same_key has add add_all inactive turn_off_at turn_off overfull numeric_map numeric_bytes str head_bytes edge_bytes edges_bytes listing_bytes edges_at next_at edge_at string_end check_listing check_edges good plain_bytes table_bytes record_bytes map_of list in_row string plain plain_records plain_record through added_by after added chains_of joined_of next joined over over_digits d1_rule g1_rule g2_rule g3_rule g4_rule digit_edge gap nearest begin longer retags counted_value counted_base power_of_ten power_within char_edges char_edge lowest gcd gcd_within from chains first_above first_is_digit last_is_digit is_digit in_runs starts decimal decimal_within of_nat seq encode chars decode left encodes same find to_bits of_bits of_int to_unsigned read_table read_records read_list read_texts legal_record digit_rule legal_numbers legal_texts legal_code_point legal_digit legal_mark all_of item read_record read_fields read_numbers optional fraction text text_of number le le_at part bytes_of
marked_listings = (refl, refl, refl)

-- ---- what `Demand3.antt` says of 一万五: an edge of the answered listing over the whole line holds 15000
none_given : (e : Edge) → has (listed no_edges) e ≡ false
unfolding has edges_at le_at le part
none_given e = refl

abbrev 一万五 : List Char
一万五 = digit 一 ∷ large 万 ∷ digit 五 ∷ []

marked_answered : Answered (encodes (map code_point 一万五)) no_edges (listing_bytes fifteen_thousand) 一万五
marked_answered = answered _ no_edges 65536 32768 _ 一万五 (line_of 一万五).characters no_edges_bytes marked_listings.0

pub marked_value : (e : NumEdge) × OneEdge (encodes (map code_point 一万五)) e
    × ((x : Edge) × (keyed (listed (listing_bytes fifteen_thousand)) (listed_edge e) ≡ some x) × HoldsValue x 15000)
marked_value =
    let (r, v) = numerals.2 in
    let (e, one) = marked_answered.settled.one_edge.1 r in (
      e,
      one,
      subst (λ (n : ℕ). (x : Edge) × (keyed (listed (listing_bytes fifteen_thousand)) (listed_edge e) ≡ some x) × HoldsValue x n) v
          (marked_answered.value e one (none_given (listed_edge e)) r),
    )

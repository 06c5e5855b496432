-- The definition of the call on examples, by computation: 01's example 百分之五; each of the checks 1 to 8 against the next; both sides of the output's length; a wide digit.
use Prim.Native.Nat.{ℕ}
use mathlib.Core.Path.{◌≡◌, refl}
use mathlib.Core.Bool.{Bool, false}
use mathlib.Core.List.{List, [], ◌∷◌, ◌++◌, map}
use mathlib.Core.Option
use mathlib.Core.Option.{Option, none, some}
use lib.ListN.{replicate}
use lib.Ieee.{to_bits, of_bits, of_int, to_unsigned}
use Rattle.text.specs.Bytes.{same}
use Rattle.text.specs.Text.{chars, decode, left, encodes}
use Rattle.text.specs.Sequence.{seq, encode}
use Rattle.whole.specs.Whole.{of_nat}
use Rattle.whole.specs.Decimal.{decimal, decimal_within}
use Rattle.fields.specs.Fields.{le, le_at, bytes_of}
use Rattle.fields.specs.Part.{part}
use Rattle.digits.specs.Digits.{is_digit, in_runs, starts}
use Rattle.digits.specs.TextEnds.{first_is_digit, last_is_digit}
use Rattle.table.specs.Table.{find}
use Rattle.table.specs.Layout.{number, text_of, text, fraction, optional, read_numbers, read_fields, read_record}
use Rattle.table.specs.Check.{item, all_of, legal_mark, legal_digit, legal_code_point, legal_texts, legal_numbers, digit_rule, legal_record, read_texts, read_list, read_records, read_table}
use Rattle.passes.specs.Chains.{from, chains}
use Rattle.passes.specs.NumEdge.{first_above}
use Rattle.passes.specs.Characters.{char_edges, char_edge, lowest, gcd, gcd_within}
use Rattle.passes.specs.Passes.{through, added_by, after, added, chains_of, joined_of, next, joined, over, over_digits, d1_rule, g1_rule, g2_rule, g3_rule, g4_rule, digit_edge, gap, nearest, begin, longer, retags, counted_value, counted_base, power_of_ten, power_within}
use Rattle.edge.specs.Edge.{Text, Edge, Numeric, f64_bits, numeric_map, numeric_bytes, str, head_bytes, edge_bytes, edges_bytes, listing_bytes}
use Rattle.edge.specs.Layout.{edges_at, next_at, edge_at, string_end}
use Rattle.edge.specs.Check.{check_listing, check_edges, good}
use Rattle.lattice.specs.Lattice.{same_key, has, add, add_all, inactive, turn_off_at, turn_off, overfull}
use Rattle.paths.specs.Best.{starts_with, regular_class, class, asked, score, highest, first_of, best, numbered}
use Rattle.grammar.specs.Plain.{plain, plain_records, plain_record}
use Rattle.numbers.specs.Listed.{listed_edge, whole_value}
use Rattle.numbers.specs.Folded.{fold}
use Rattle.numbers.specs.Fractions.{stands_at, longest, marker_at, fraction_edge, marked, outcome_at, outcomes_from, new_edges, used_edges, fractions}
use Rattle.numbers.specs.Signs.{signed, signs}
use Rattle.numbers.specs.Separators.{ends_before, apart, copy_of, copies, separate}
use Rattle.numbers.specs.Fallback.{covered, fallback}
use Rattle.numbers.specs.Call.{no_edges, listing, refused, after_passes, after_signs, lattice_by, lattice_of, after_checks, answer_by, add_numbers}

-- what the program prints of an edge: start, end, type, txt, and whether it is active, none for a regular one
abbrev row : Edge → ℕ × ℕ × Text × Text × Option Bool
row e = (e.start, e.end, e.type, e.txt, Option.map (λ (n : Numeric). n.active) e.num)

-- 百分之五: 0 1 base 100 0; 3 4 digit 5 0; 0 4 percentage 5% -
pub example : map row (lattice_of plain (0x767E ∷ 0x5206 ∷ 0x4E4B ∷ 0x4E94 ∷ []) [])
    ≡ (0, 1, 98 ∷ 97 ∷ 115 ∷ 101 ∷ [], 49 ∷ 48 ∷ 48 ∷ [], some false)
    ∷ (3, 4, 100 ∷ 105 ∷ 103 ∷ 105 ∷ 116 ∷ [], 53 ∷ [], some false)
    ∷ (0, 4, 112 ∷ 101 ∷ 114 ∷ 99 ∷ 101 ∷ 110 ∷ 116 ∷ 97 ∷ 103 ∷ 101 ∷ [], 53 ∷ 37 ∷ [], none) ∷ []
unfolding lattice_by after_passes after_signs fractions outcomes_from outcome_at marked marker_at longest stands_at fold new_edges used_edges fraction_edge signs signed separate copies copy_of apart ends_before fallback covered f64_bits listed_edge whole_value starts_with regular_class class asked score highest first_of best numbered same_key has add add_all inactive turn_off_at turn_off plain plain_records plain_record through added_by after added chains_of joined_of next joined over over_digits d1_rule g1_rule g2_rule g3_rule g4_rule digit_edge gap nearest begin longer retags counted_value counted_base power_of_ten power_within char_edges char_edge lowest gcd gcd_within from chains first_is_digit last_is_digit is_digit in_runs starts decimal decimal_within of_nat seq encode chars decode encodes same find to_bits of_bits of_int to_unsigned
example = refl

-- ---- the order of the checks
-- so many times the character x, and so many times the digit 9
abbrev xs : ℕ → List ℕ
xs n = replicate n 120

abbrev nines : ℕ → List ℕ
nines n = replicate n 57

-- the empty table
abbrev empty : List ℕ
empty = 0 ∷ 0 ∷ 0 ∷ 0 ∷ 0 ∷ 0 ∷ []

-- a table of one record, for the surrogate U+D800, up to its map
abbrev surrogate : List ℕ
surrogate = 1 ∷ 0 ∷ 0 ∷ 0 ∷ 0 ∷ 0 ∷ 0x00 ∷ 0xD8 ∷ 0 ∷ 0 ∷ 0 ∷ []

-- a table of one record, for the digit 9: type "digit", rom "9", value 9
abbrev only_nine : List ℕ
only_nine = 1 ∷ 0 ∷ 0 ∷ 0 ∷ 0 ∷ 0 ∷ 57 ∷ 0 ∷ 0 ∷ 0 ∷ 3 ∷ 5 ∷ 100 ∷ 105 ∷ 103 ∷ 105 ∷ 116 ∷ 1 ∷ 57 ∷ 9 ∷ 0 ∷ 0 ∷ 0 ∷ 0 ∷ 0 ∷ 0 ∷ 0 ∷ []

-- each check against the next: a call with both faults is refused by the first, and without that fault by the second
pub order :
    -- 1 and 2: a work space that is a byte too short; a line that is no UTF-8
    ((add_numbers (255 ∷ []) [] [] 65535 0 ≡ refused 1 0) × (add_numbers (255 ∷ []) [] [] 65536 0 ≡ refused 2 0))
    -- 2 and 3: a line of 257 characters
    × ((add_numbers (xs 257 ++ (255 ∷ [])) [] [] 65536 0 ≡ refused 2 257) × (add_numbers (xs 257) [] [] 65536 0 ≡ refused 3 256))
    -- 3 and 4: a table without its count
    × ((add_numbers (xs 257) [] [] 65536 0 ≡ refused 3 256) × (add_numbers (xs 256) [] [] 65536 0 ≡ refused 4 0))
    -- 4 and 5: one record, cut off before its type; with its type
    × ((add_numbers [] surrogate [] 65536 0 ≡ refused 4 6) × (add_numbers [] (surrogate ++ (0 ∷ [])) [] 65536 0 ≡ refused 5 6))
    -- 5 and 6: given edges without their count
    × ((add_numbers [] (surrogate ++ (0 ∷ [])) [] 65536 0 ≡ refused 5 6) × (add_numbers [] empty [] 65536 0 ≡ refused 6 0))
    -- 6 and 7: a value above TOP, sixteen nines
    × ((add_numbers (nines 16) only_nine [] 65536 0 ≡ refused 6 0) × (add_numbers (nines 16) only_nine no_edges 65536 0 ≡ refused 7 0))
    -- 7 and 8: no output
    × ((add_numbers (nines 16) only_nine no_edges 65536 0 ≡ refused 7 0) × (add_numbers (nines 15) only_nine no_edges 65536 0 ≡ refused 8 0))
unfolding answer_by after_checks lattice_by after_passes after_signs fractions outcomes_from outcome_at marked marker_at longest stands_at fold new_edges used_edges fraction_edge signs signed separate copies copy_of apart ends_before fallback covered f64_bits listed_edge whole_value starts_with regular_class class asked score highest first_of best numbered same_key has add add_all inactive turn_off_at turn_off overfull numeric_map numeric_bytes str head_bytes edge_bytes edges_bytes listing_bytes edges_at next_at edge_at string_end check_listing check_edges good through added_by after added chains_of joined_of next joined over over_digits d1_rule g1_rule g2_rule g3_rule g4_rule digit_edge gap nearest begin longer retags counted_value counted_base power_of_ten power_within char_edges char_edge lowest gcd gcd_within from chains first_above first_is_digit last_is_digit is_digit in_runs starts decimal decimal_within of_nat seq encode chars decode left encodes same find to_bits of_bits of_int to_unsigned read_table read_records read_list read_texts legal_record digit_rule legal_numbers legal_texts legal_code_point legal_digit legal_mark all_of item read_record read_fields read_numbers optional fraction text text_of number le le_at part bytes_of
order = ((refl, refl), (refl, refl), (refl, refl), (refl, refl), (refl, refl), (refl, refl), (refl, refl))

-- the fallback's edge of the digit 1: an output that is a byte too short, and one that is long enough
pub output :
    (add_numbers (49 ∷ []) empty no_edges 65536 15 ≡ refused 8 0)
    × (add_numbers (49 ∷ []) empty no_edges 65536 16 ≡ listing (1 ∷ 0 ∷ 0 ∷ 0 ∷ 0 ∷ 0 ∷ 1 ∷ 0 ∷ 3 ∷ 0 ∷ 110 ∷ 117 ∷ 109 ∷ 1 ∷ 0 ∷ 49 ∷ []))
unfolding answer_by after_checks lattice_by after_passes after_signs fractions outcomes_from outcome_at marker_at longest new_edges used_edges signs separate copies fallback covered add_all add has turn_off overfull str head_bytes edge_bytes edges_bytes listing_bytes through added_by after added chains_of joined_of char_edges from chains first_above check_listing check_edges good next_at string_end edges_at le le_at bytes_of part read_table read_records read_list read_texts item number seq chars decode left find
output = (refl, refl)

-- digits are not folded (02, S-3): １ is no ASCII digit, so the fallback gives it no edge
pub wide_digit : fallback [] 0 (0xFF11 ∷ []) ≡ []
unfolding fallback covered
wide_digit = refl

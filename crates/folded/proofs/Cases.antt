-- The call on lines and tables with wide characters, by computation (02, S-3).
--     signs_table p c q n   the plain table's records with the percentage markers p, connectors c, plus signs q and minus signs n
--     read t w             start, end, type, txt of each edge of the line w, and whether it is active, none for a regular one
use Prim.Native.Nat.{ℕ}
use mathlib.Core.Path.{◌≡◌, refl}
use mathlib.Core.Bool.{Bool, true, false}
use mathlib.Core.List.{List, [], ◌∷◌, map}
use mathlib.Core.Option
use mathlib.Core.Option.{Option, none, some}
use lib.Ieee.{to_bits, of_bits, of_int, to_unsigned}
use Rattle.text.specs.Bytes.{same}
use Rattle.text.specs.Text.{chars, decode, encodes}
use Rattle.text.specs.Sequence.{seq, encode}
use Rattle.whole.specs.Whole.{of_nat}
use Rattle.whole.specs.Decimal.{decimal, decimal_within}
use Rattle.digits.specs.Digits.{is_digit, in_runs, starts}
use Rattle.digits.specs.TextEnds.{first_is_digit, last_is_digit}
use Rattle.table.specs.Table.{Table, find}
use Rattle.passes.specs.Chains.{from, chains}
use Rattle.passes.specs.Characters.{char_edges, char_edge, lowest, gcd, gcd_within}
use Rattle.passes.specs.Passes.{through, added_by, after, added, chains_of, joined_of, next, joined, over, over_digits, d1_rule, g1_rule, g2_rule, g3_rule, g4_rule, digit_edge, gap, nearest, begin, longer, retags, counted_value, counted_base, power_of_ten, power_within}
use Rattle.edge.specs.Edge.{Text, Edge, Numeric, f64_bits}
use Rattle.lattice.specs.Lattice.{same_key, has, add, add_all, inactive, turn_off_at, turn_off}
use Rattle.paths.specs.Best.{starts_with, regular_class, class, asked, score, highest, first_of, best, numbered}
use Rattle.grammar.specs.Plain.{plain, plain_records, plain_record}
use Rattle.numbers.specs.Listed.{listed_edge, whole_value}
use Rattle.numbers.specs.Folded.{fold}
use Rattle.numbers.specs.Fractions.{stands_at, longest, marker_at, fraction_edge, marked, outcome_at, outcomes_from, new_edges, used_edges, fractions}
use Rattle.numbers.specs.Signs.{signed, signs}
use Rattle.numbers.specs.Separators.{ends_before, apart, copy_of, copies, separate}
use Rattle.numbers.specs.Fallback.{covered, fallback}
use Rattle.numbers.specs.Call.{after_passes, after_signs, lattice_by, lattice_of}

abbrev row : Edge → ℕ × ℕ × Text × Text × Option Bool
row e = (e.start, e.end, e.type, e.txt, Option.map (λ (n : Numeric). n.active) e.num)

abbrev pub signs_table : List Text → List Text → List Text → List Text → Table
signs_table p c q n = record { percentage_markers = p; fraction_connectors = c; plus_signs = q; minus_signs = n; records = plain.records }

unfoldable pub read : Table → List ℕ → List (ℕ × ℕ × Text × Text × Option Bool)
unfolding lattice_by after_passes after_signs fractions outcomes_from outcome_at marked marker_at longest stands_at fold new_edges used_edges fraction_edge signs signed separate copies copy_of apart ends_before fallback covered f64_bits listed_edge whole_value starts_with regular_class class asked score highest first_of best numbered same_key has add add_all inactive turn_off_at turn_off through added_by after added chains_of joined_of next joined over over_digits d1_rule g1_rule g2_rule g3_rule g4_rule digit_edge gap nearest begin longer retags counted_value counted_base power_of_ten power_within char_edges char_edge lowest gcd gcd_within from chains first_is_digit last_is_digit is_digit in_runs starts decimal decimal_within of_nat seq encode chars decode encodes same find to_bits of_bits of_int to_unsigned
read t w = map row (lattice_of t w [])

pub cases :
    -- －五: a wide sign in the line
    (read (signs_table ([]) ([]) ((43 ∷ []) ∷ []) ((45 ∷ []) ∷ [])) (0xFF0D ∷ 0x4E94 ∷ [])
    ≡ (1, 2, 100 ∷ 105 ∷ 103 ∷ 105 ∷ 116 ∷ [], 53 ∷ [], some true)
    ∷ (0, 2, 100 ∷ 105 ∷ 103 ∷ 105 ∷ 116 ∷ 32 ∷ 45 ∷ [], 45 ∷ 53 ∷ [], none) ∷ [])
    -- -五: a wide sign in the table
    × (read (signs_table ([]) ([]) ((43 ∷ []) ∷ []) ((239 ∷ 188 ∷ 141 ∷ []) ∷ [])) (0x002D ∷ 0x4E94 ∷ [])
    ≡ (1, 2, 100 ∷ 105 ∷ 103 ∷ 105 ∷ 116 ∷ [], 53 ∷ [], some true)
    ∷ (0, 2, 100 ∷ 105 ∷ 103 ∷ 105 ∷ 116 ∷ 32 ∷ 45 ∷ [], 45 ∷ 53 ∷ [], none) ∷ [])
    -- －五: a sign listed in both widths gives one edge
    × (read (signs_table ([]) ([]) ([]) ((45 ∷ []) ∷ (239 ∷ 188 ∷ 141 ∷ []) ∷ [])) (0xFF0D ∷ 0x4E94 ∷ [])
    ≡ (1, 2, 100 ∷ 105 ∷ 103 ∷ 105 ∷ 116 ∷ [], 53 ∷ [], some true)
    ∷ (0, 2, 100 ∷ 105 ∷ 103 ∷ 105 ∷ 116 ∷ 32 ∷ 45 ∷ [], 45 ∷ 53 ∷ [], none) ∷ [])
    -- ％五: a wide percentage marker
    × (read (signs_table ((37 ∷ []) ∷ []) ([]) ([]) ([])) (0xFF05 ∷ 0x4E94 ∷ [])
    ≡ (1, 2, 100 ∷ 105 ∷ 103 ∷ 105 ∷ 116 ∷ [], 53 ∷ [], some false)
    ∷ (0, 2, 112 ∷ 101 ∷ 114 ∷ 99 ∷ 101 ∷ 110 ∷ 116 ∷ 97 ∷ 103 ∷ 101 ∷ [], 53 ∷ 37 ∷ [], none) ∷ [])
    -- 二%%%三: the longest marker is the one of most characters, not of most bytes
    × (read (signs_table ((239 ∷ 188 ∷ 133 ∷ 239 ∷ 188 ∷ 133 ∷ []) ∷ []) ((37 ∷ 37 ∷ 37 ∷ []) ∷ []) ([]) ([])) (0x4E8C ∷ 0x0025 ∷ 0x0025 ∷ 0x0025 ∷ 0x4E09 ∷ [])
    ≡ (0, 1, 100 ∷ 105 ∷ 103 ∷ 105 ∷ 116 ∷ [], 50 ∷ [], some false)
    ∷ (4, 5, 100 ∷ 105 ∷ 103 ∷ 105 ∷ 116 ∷ [], 51 ∷ [], some false)
    ∷ (0, 5, 102 ∷ 114 ∷ 97 ∷ 99 ∷ 116 ∷ 105 ∷ 111 ∷ 110 ∷ [], 51 ∷ 47 ∷ 50 ∷ [], some true)
    ∷ (2, 5, 112 ∷ 101 ∷ 114 ∷ 99 ∷ 101 ∷ 110 ∷ 116 ∷ 97 ∷ 103 ∷ 101 ∷ [], 51 ∷ 37 ∷ [], none) ∷ [])
    -- 二%三: percentages first at equal length, across widths too
    × (read (signs_table ((239 ∷ 188 ∷ 133 ∷ []) ∷ []) ((37 ∷ []) ∷ []) ([]) ([])) (0x4E8C ∷ 0x0025 ∷ 0x4E09 ∷ [])
    ≡ (0, 1, 100 ∷ 105 ∷ 103 ∷ 105 ∷ 116 ∷ [], 50 ∷ [], some true)
    ∷ (2, 3, 100 ∷ 105 ∷ 103 ∷ 105 ∷ 116 ∷ [], 51 ∷ [], some false)
    ∷ (1, 3, 112 ∷ 101 ∷ 114 ∷ 99 ∷ 101 ∷ 110 ∷ 116 ∷ 97 ∷ 103 ∷ 101 ∷ [], 51 ∷ 37 ∷ [], none) ∷ [])
    -- 二／三: a wide connector in the line
    × (read (signs_table ([]) ((47 ∷ []) ∷ []) ([]) ([])) (0x4E8C ∷ 0xFF0F ∷ 0x4E09 ∷ [])
    ≡ (0, 1, 100 ∷ 105 ∷ 103 ∷ 105 ∷ 116 ∷ [], 50 ∷ [], some false)
    ∷ (2, 3, 100 ∷ 105 ∷ 103 ∷ 105 ∷ 116 ∷ [], 51 ∷ [], some false)
    ∷ (0, 3, 102 ∷ 114 ∷ 97 ∷ 99 ∷ 116 ∷ 105 ∷ 111 ∷ 110 ∷ [], 51 ∷ 47 ∷ 50 ∷ [], some true) ∷ [])
    -- １: digits are not folded
    × (read (signs_table ([]) ([]) ([]) ([])) (0xFF11 ∷ [])
    ≡ [])
unfolding read plain plain_records plain_record
cases = (refl, refl, refl, refl, refl, refl, refl, refl)

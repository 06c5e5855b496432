-- Both calls at some lines of the plain table, by computation: 02's rule and its limits (S-12).
--     both w given   start, end, type, txt of each edge of the first call, with whether it is active, none for a regular one; and the latter for the second call
use Prim.Native.Nat.{ℕ}
use mathlib.Core.Path.{◌≡◌, refl}
use mathlib.Core.Bool.{Bool, true, false}
use mathlib.Core.List.{List, [], ◌∷◌, map}
use mathlib.Core.Option
use mathlib.Core.Option.{Option, none, some}
use lib.Ieee.{to_bits, of_bits, of_int, to_unsigned}
use Rattle.text.specs.Bytes.{same}
use Rattle.text.specs.Text.{chars, decode, encodes}
use Rattle.text.specs.Sequence.{seq, encode}
use Rattle.whole.specs.Whole.{of_nat}
use Rattle.whole.specs.Decimal.{decimal, decimal_within}
use Rattle.digits.specs.Digits.{is_digit, in_runs, starts}
use Rattle.digits.specs.TextEnds.{first_is_digit, last_is_digit}
use Rattle.table.specs.Table.{find}
use Rattle.passes.specs.Chains.{from, chains}
use Rattle.passes.specs.Characters.{char_edges, char_edge, lowest, gcd, gcd_within}
use Rattle.passes.specs.Passes.{through, added_by, after, added, chains_of, joined_of, next, joined, over, over_digits, d1_rule, g1_rule, g2_rule, g3_rule, g4_rule, digit_edge, gap, nearest, begin, longer, retags, counted_value, counted_base, power_of_ten, power_within}
use Rattle.edge.specs.Edge.{Text, Edge, Numeric, f64_bits}
use Rattle.lattice.specs.Lattice.{same_key, has, add, add_all, inactive, turn_off_at, turn_off}
use Rattle.paths.specs.Best.{starts_with, regular_class, class, asked, score, highest, first_of, best, numbered}
use Rattle.grammar.specs.Plain.{plain, plain_records, plain_record}
use Rattle.numbers.specs.Listed.{listed_edge, whole_value}
use Rattle.numbers.specs.Folded.{fold}
use Rattle.numbers.specs.Fractions.{stands_at, longest, marker_at, fraction_edge, marked, outcome_at, outcomes_from, new_edges, used_edges, fractions}
use Rattle.numbers.specs.Signs.{signed, signs}
use Rattle.numbers.specs.Separators.{ends_before, apart, copy_of, copies, separate}
use Rattle.numbers.specs.Fallback.{covered, fallback}
use Rattle.numbers.specs.Call.{after_passes, after_signs, lattice_by, lattice_of}
use Rattle.edge.specs.Write.{regular}
use Rattle.passes.specs.NumEdge.{NumEdge}
use Rattle.numbers.specs.Singles.{one_of, barred_characters, barred, barred_of, silenced, without_singles}

abbrev active : Edge → Option Bool
active e = Option.map (λ (n : Numeric). n.active) e.num

abbrev row : Edge → ℕ × ℕ × Text × Text × Option Bool
row e = (e.start, e.end, e.type, e.txt, active e)

unfoldable pub both : List ℕ → List Edge → List (ℕ × ℕ × Text × Text × Option Bool) × List (Option Bool)
unfolding lattice_by after_passes after_signs fractions outcomes_from outcome_at marked marker_at longest stands_at fold new_edges used_edges fraction_edge signs signed separate copies copy_of apart ends_before fallback covered f64_bits listed_edge whole_value starts_with regular_class class asked score highest first_of best numbered same_key has add add_all inactive turn_off_at turn_off through added_by after added chains_of joined_of next joined over over_digits d1_rule g1_rule g2_rule g3_rule g4_rule digit_edge gap nearest begin longer retags counted_value counted_base power_of_ten power_within char_edges char_edge lowest gcd gcd_within from chains first_is_digit last_is_digit is_digit in_runs starts decimal decimal_within of_nat seq encode chars decode encodes same find to_bits of_bits of_int to_unsigned one_of barred barred_of silenced without_singles
both w given = (map row (lattice_of plain w given), map active (lattice_by true plain w given))

pub cases :
    -- 万: 万 alone no longer reads as a number
    (both (0x4E07 ∷ []) ([])
    ≡ ((0, 1, 108 ∷ 97 ∷ 114 ∷ 103 ∷ 101 ∷ [], 49 ∷ 48 ∷ 48 ∷ 48 ∷ 48 ∷ [], some true) ∷ [], some false ∷ []))
    -- 千: 1000 is not above 1000
    × (both (0x5343 ∷ []) ([])
    ≡ ((0, 1, 98 ∷ 97 ∷ 115 ∷ 101 ∷ [], 49 ∷ 48 ∷ 48 ∷ 48 ∷ [], some true) ∷ [], some true ∷ []))
    -- 万分之一: the fraction stays; 万 and 一 were inactive
    × (both (0x4E07 ∷ 0x5206 ∷ 0x4E4B ∷ 0x4E00 ∷ []) ([])
    ≡ (
      (0, 1, 108 ∷ 97 ∷ 114 ∷ 103 ∷ 101 ∷ [], 49 ∷ 48 ∷ 48 ∷ 48 ∷ 48 ∷ [], some false)
          ∷ (3, 4, 100 ∷ 105 ∷ 103 ∷ 105 ∷ 116 ∷ [], 49 ∷ [], some false)
          ∷ (0, 4, 102 ∷ 114 ∷ 97 ∷ 99 ∷ 116 ∷ 105 ∷ 111 ∷ 110 ∷ [], 49 ∷ 47 ∷ 49 ∷ 48 ∷ 48 ∷ 48 ∷ 48 ∷ [], some true) ∷ [],
      some false ∷ some false ∷ some true ∷ [],
    ))
    -- -万: a sign's edge stays
    × (both (0x002D ∷ 0x4E07 ∷ []) ([])
    ≡ (
      (1, 2, 108 ∷ 97 ∷ 114 ∷ 103 ∷ 101 ∷ [], 49 ∷ 48 ∷ 48 ∷ 48 ∷ 48 ∷ [], some true)
          ∷ (0, 2, 108 ∷ 97 ∷ 114 ∷ 103 ∷ 101 ∷ 32 ∷ 45 ∷ [], 45 ∷ 49 ∷ 48 ∷ 48 ∷ 48 ∷ 48 ∷ [], none) ∷ [],
      some false ∷ none ∷ [],
    ))
    -- 五万: 五万 is one edge, and the copy ·10000 of its 万 stays
    × (both (0x4E94 ∷ 0x4E07 ∷ []) ([])
    ≡ (
      (0, 1, 100 ∷ 105 ∷ 103 ∷ 105 ∷ 116 ∷ [], 53 ∷ [], some true)
          ∷ (1, 2, 108 ∷ 97 ∷ 114 ∷ 103 ∷ 101 ∷ [], 49 ∷ 48 ∷ 48 ∷ 48 ∷ 48 ∷ [], some false)
          ∷ (0, 2, 71 ∷ 51 ∷ [], 53 ∷ 48 ∷ 48 ∷ 48 ∷ 48 ∷ [], some true)
          ∷ (1, 2, 108 ∷ 97 ∷ 114 ∷ 103 ∷ 101 ∷ [], 194 ∷ 183 ∷ 49 ∷ 48 ∷ 48 ∷ 48 ∷ 48 ∷ [], some true) ∷ [],
      some true ∷ some false ∷ some true ∷ some true ∷ [],
    ))
    -- x万: behind a given edge that ends with a digit: the copy turns inactive too
    × (both (0x0078 ∷ 0x4E07 ∷ []) (regular 0 1 (113 ∷ []) (49 ∷ []) ∷ [])
    ≡ (
      (0, 1, 113 ∷ [], 49 ∷ [], none)
          ∷ (1, 2, 108 ∷ 97 ∷ 114 ∷ 103 ∷ 101 ∷ [], 49 ∷ 48 ∷ 48 ∷ 48 ∷ 48 ∷ [], some false)
          ∷ (1, 2, 108 ∷ 97 ∷ 114 ∷ 103 ∷ 101 ∷ [], 194 ∷ 183 ∷ 49 ∷ 48 ∷ 48 ∷ 48 ∷ 48 ∷ [], some true) ∷ [],
      none ∷ some false ∷ some false ∷ [],
    ))
    -- 7万: the fallback's digit comes last, so F1 sees none before 万
    × (both (0x0037 ∷ 0x4E07 ∷ []) ([])
    ≡ (
      (1, 2, 108 ∷ 97 ∷ 114 ∷ 103 ∷ 101 ∷ [], 49 ∷ 48 ∷ 48 ∷ 48 ∷ 48 ∷ [], some true) ∷ (0, 1, 110 ∷ 117 ∷ 109 ∷ [], 55 ∷ [], none) ∷ [],
      some false ∷ none ∷ [],
    ))
    -- 万: a given edge was kept in its stead
    × (both (0x4E07 ∷ []) (regular 0 1 (108 ∷ 97 ∷ 114 ∷ 103 ∷ 101 ∷ []) (49 ∷ 48 ∷ 48 ∷ 48 ∷ 48 ∷ []) ∷ [])
    ≡ ((0, 1, 108 ∷ 97 ∷ 114 ∷ 103 ∷ 101 ∷ [], 49 ∷ 48 ∷ 48 ∷ 48 ∷ 48 ∷ [], none) ∷ [], none ∷ []))
unfolding both plain plain_records plain_record
cases = (refl, refl, refl, refl, refl, refl, refl, refl)

-- the edge of the character c with value v, at place 0
abbrev pub single : ℕ → Option ℕ → NumEdge
single c v = char_edge 0 c (record { code_point = c; type = []; rom = none; value = v; fraction = none; base = none; mult = none; script = none; large_power = false })

-- the seven characters as 02 writes them, whatever their value, also without one; others above 1000 only
pub characters :
    (map (λ (c : ℕ). barred (single c none)) (0x5169 ∷ 0x53C2 ∷ 0x53C3 ∷ 0x4F0D ∷ 0x9646 ∷ 0x9678 ∷ 0x4EC0 ∷ []) ≡ true ∷ true ∷ true ∷ true ∷ true ∷ true ∷ true ∷ [])
    × (barred (single 0x4F0D (some 5)) ≡ true)
    × (barred (single 0x4E94 (some 5)) ≡ false)
    × (barred (single 0x5343 (some 1000)) ≡ false)
    × (barred (single 0x5343 (some 1001)) ≡ true)
    × (chars (229 ∷ 133 ∷ 169 ∷ 229 ∷ 143 ∷ 130 ∷ 229 ∷ 143 ∷ 131 ∷ 228 ∷ 188 ∷ 141 ∷ 233 ∷ 153 ∷ 134 ∷ 233 ∷ 153 ∷ 184 ∷ 228 ∷ 187 ∷ 128 ∷ []) ≡ barred_characters)
unfolding barred one_of char_edge same encode seq chars decode
characters = (refl, refl, refl, refl, refl, refl)

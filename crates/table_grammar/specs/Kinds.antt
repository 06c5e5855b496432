-- The four kinds of records of a regular table, and the characters that numerals are made of by such a table. Definitions only.
--     digit_record, unit_record, large_record, other_record   a record is of the first, second, third, fourth kind
--     regular_record r     r is of one of the four kinds
--     regular t           each record of the table t is
--     all_valued rs        each of the records rs has a value
--     Digit, Ten, Large   a record of one of the first three kinds
--     Char                one of these: a character that numerals are made of
--     char_of r            the record r as such a character, where it is of the first three kinds
--     chars_of rs w        the characters of the code points w by the records rs, where each of w is one
--     Assumes nothing.
use Rattle.std.specs.Prelude.{ℕ, ◌≡◌, refl, Bool, true, false, ◌&&◌, ◌||◌, not, List, [], ◌∷◌, leb, eqb}
use Rattle.std.proofs.Math.Option.{Option, none, some}
use Rattle.text.specs.Bytes.{same}
use Rattle.table.specs.Table.{Record, Table, find}
use Rattle.passes.specs.NumEdge.{or_zero, has}
use Rattle.passes.specs.Passes.{digit_type}
use Rattle.passes.specs.Renaming.{gap_char}
use Rattle.table_grammar.specs.Grammar.{CharOf, digit, ten, large}

-- ---- the four kinds

-- there is a number, and it is n; at most n; at least n
abbrev pub exactly : ℕ → Option ℕ → Bool
exactly n none = false
exactly n (some v) = eqb v n

abbrev pub at_most : ℕ → Option ℕ → Bool
at_most n none = false
at_most n (some v) = leb v n

abbrev pub at_least : ℕ → Option ℕ → Bool
at_least n none = false
at_least n (some v) = leb n v

-- "A digit: type "digit", value 0 to 9, base 1, no large power."
abbrev pub digit_record : Record → Bool
digit_record r = same r.type digit_type && at_most 9 r.value && exactly 1 r.base && not r.large_power

-- "A unit: value 10 or more, base from 2 up to the value, no large power, not 零 or 〇."
abbrev pub unit_record : Record → Bool
unit_record r =
    at_least 10 r.value && at_least 2 r.base && leb (or_zero r.base) (or_zero r.value) && not r.large_power && not (gap_char r.code_point)

-- "A large power: value 10 or more, base 2 or more."
abbrev pub large_record : Record → Bool
large_record r = at_least 10 r.value && at_least 2 r.base && r.large_power

-- "Any other: no value, no base above 1 unless it is a large power, not 零 or 〇."
abbrev pub other_record : Record → Bool
other_record r = not (has r.value) && (leb (or_zero r.base) 1 || r.large_power) && not (gap_char r.code_point)

-- "a table is regular if each record is of one of four kinds"
abbrev pub regular_record : Record → Bool
regular_record r = digit_record r || unit_record r || large_record r || other_record r

abbrev pub regular_records : List Record → Bool
regular_records [] = true
regular_records (r ∷ rs) = regular_record r && regular_records rs

abbrev pub regular : Table → Bool
regular t = regular_records t.records

-- each record has a value: none is of the fourth kind
abbrev pub all_valued : List Record → Bool
all_valued [] = true
all_valued (r ∷ rs) = has r.value && all_valued rs

-- ---- the characters that numerals are made of
pub record Digit : Type 0 where
  pub entry : Record
  pub law : digit_record entry ≡ true

pub record Ten : Type 0 where
  pub entry : Record
  pub law : unit_record entry ≡ true

pub record Large : Type 0 where
  pub entry : Record
  pub law : large_record entry ≡ true

abbrev pub Char : Type 0
Char = CharOf Digit Ten Large

abbrev pub digit_value : Digit → ℕ
digit_value d = or_zero d.entry.value

abbrev pub ten_value : Ten → ℕ
ten_value t = or_zero t.entry.value

abbrev pub ten_base : Ten → ℕ
ten_base t = or_zero t.entry.base

abbrev pub large_value : Large → ℕ
large_value l = or_zero l.entry.value

abbrev pub large_base : Large → ℕ
large_base l = or_zero l.entry.base

abbrev pub entry_of : Char → Record
entry_of (digit d) = d.entry
entry_of (ten t) = t.entry
entry_of (large l) = l.entry

-- the record r, whose tests for the first three kinds say a, b and c
abbrev pub char_by : (r : Record) (a b c : Bool) → digit_record r ≡ a → unit_record r ≡ b → large_record r ≡ c → Option Char
char_by r true b c p q s = some (digit (record { entry = r; law = p }))
char_by r false true c p q s = some (ten (record { entry = r; law = q }))
char_by r false false true p q s = some (large (record { entry = r; law = s }))
char_by r false false false p q s = none

abbrev pub char_of : Record → Option Char
char_of r = char_by r (digit_record r) (unit_record r) (large_record r) refl refl refl

abbrev pub char_at : Option Record → Option Char
char_at none = none
char_at (some r) = char_of r

abbrev pub put : Option Char → Option (List Char) → Option (List Char)
put none o = none
put (some c) none = none
put (some c) (some w) = some (c ∷ w)

abbrev pub chars_of : List Record → List ℕ → Option (List Char)
chars_of rs [] = some []
chars_of rs (c ∷ w) = put (char_at (find rs c)) (chars_of rs w)

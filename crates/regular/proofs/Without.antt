-- What fails without each part of the condition, computed on both sides. For each part there is a table with one record that lacks this part alone, and a line. What the passes
-- make of the line and what the grammar says of it, with the record taken for the kind that it pretends to be, are not the same, so that demand 3 would be false of the table.
-- The table is smallest. Computed: it has this record and at most one other; without the record, and with the part mended, it is regular; and no shorter line of its characters
-- fails. Where it has another, no table of one record that lacks this part alone fails, on any line, and with no table does a line of one character (`proofs/Alone.antt`);
-- nor, for the one line of three, one of two (`proofs/TwoCharacters.antt`).
-- One part has no such table: a record that lacks of the unit's parts only "no large power" is a large power (`unit_not_large`).
--     Taken             a record, taken for a digit, a unit, a large power or any other
--     grammar_says w     the value of the numeral w by the grammar, with its records so taken; none where it is no numeral
--     Differs ts w a g  with the table ts the passes answer a for the line w and the grammar says g, which is not the same; of every shorter line they say the same
--     AgreeAlone x      with the table of x alone, of every line of x the list after the fifth pass and the grammar say the same
--     Fails x m ts w a g   x is of no kind, the table ts is regular, and with x mended to m too; with x, it differs so
-- Assumes nothing.
use Prim.Native.Nat.{ℕ, zero, suc}
use Prim.Native.Char.{code}
use mathlib.Core.Path.{◌≡◌, refl}
use mathlib.Core.Bool.{Bool, true, false, cond, ◌&&◌}
use mathlib.Core.List.{List, [], ◌∷◌, ◌++◌, map}
use mathlib.Core.Option.{Option, none, some}
use lib.Dec.{eqb}
use lib.ListN.{length, replicate}
use Rattle.text.specs.Bytes.{same}
use Rattle.table.specs.Table.{Text, Record}
use Rattle.whole.specs.Decimal.{decimal, decimal_within}
use Rattle.passes.specs.Chains.{from, chains}
use Rattle.passes.specs.Passes.{digit_type, cjk, power_of_ten, power_within, fifth_list}
use Rattle.table_grammar.specs.Grammar.{CharOf, digit, ten, large, small, block, lone, Alphabet}
use Rattle.table_grammar.specs.Kinds.{Char, at_least, digit_record, unit_record, large_record, other_record, regular_record, regular_records}
use Rattle.table_grammar.specs.TableGrammar.{by_records, kinds, Member}
use Rattle.table_grammar.proofs.Computed.{said}
use Rattle.table_grammar.proofs.Alphabets.{char_by, member_by, same_said}
use Rattle.grammar.proofs.Marked.{Answer, Edges, Refused7, answer_of, answer_with, one, two}
use Rattle.regular.proofs.Makers.{table_with, base_type, large_type, digit_row, unit_row, large_row}

-- ---- what is said

pub data Taken : Type 0 where
  asDigit asUnit asLarge asOther : Record → Taken

abbrev pub entry : Taken → Record
entry (asDigit r) = r
entry (asUnit r) = r
entry (asLarge r) = r
entry (asOther r) = r

-- the record r is of the kind that x is taken for
abbrev pub of_kind : Taken → Record → Bool
of_kind (asDigit x) r = digit_record r
of_kind (asUnit x) r = unit_record r
of_kind (asLarge x) r = large_record r
of_kind (asOther x) r = other_record r

abbrev pub own_kinds : List Taken → Bool
own_kinds [] = true
own_kinds (x ∷ ts) = of_kind x (entry x) && own_kinds ts

-- the grammar of `kinds` (`table_grammar`, specs/TableGrammar.antt), of records that need not be of their kinds
abbrev pub loose : Alphabet Record Record Record
loose = by_records (λ r. r) (λ r. r) (λ r. r)

abbrev pub Mark : Type 0
Mark = CharOf Record Record Record

abbrev before : Mark → Option (List Mark) → Option (List Mark)
before c none = none
before c (some w) = some (c ∷ w)

-- the characters that numerals are made of, where all are
abbrev pub marks : List Taken → Option (List Mark)
marks [] = some []
marks (asDigit r ∷ w) = before (digit r) (marks w)
marks (asUnit r ∷ w) = before (ten r) (marks w)
marks (asLarge r ∷ w) = before (large r) (marks w)
marks (asOther r ∷ w) = none

-- of characters that are of their kinds it says what the table's grammar says
pub loose_kinds : (w : List Char) → said loose (map (char_by (λ d. d.entry) (λ t. t.entry) (λ l. l.entry)) w) ≡ said kinds w
loose_kinds = same_said (λ d. d.entry) (λ t. t.entry) (λ l. l.entry) kinds loose (record {
  digit_value_lem = λ d. refl;
  ten_value_lem = λ t. refl;
  ten_base_lem = λ t. refl;
  large_value_lem = λ l. refl;
  large_base_lem = λ l. refl;
  zero = λ d. refl;
  tenths = tenths;
})
  where
    tenths : (m : Member) → loose.tenths (member_by (λ d. d.entry) (λ t. t.entry) (λ l. l.entry) m) ≡ kinds.tenths m
    tenths (small s) = refl
    tenths (block s l) = refl
    tenths (lone l) = refl

abbrev said_of : Option (List Mark) → Option ℕ
said_of none = none
said_of (some w) = said loose w

abbrev pub grammar_says : List Taken → Option ℕ
grammar_says w = said_of (marks w)

abbrev pub passes_say : List Taken → List Taken → Answer
passes_say ts w = answer_with (table_with (map entry ts)) (map (λ x. (entry x).code_point) w)

-- the value of the one edge over the whole line of n characters, where the answer is that
abbrev pub whole_value : ℕ → Answer → Option ℕ
whole_value n (Edges []) = none
whole_value n (Edges ((start, end, v) ∷ [])) = cond (eqb start 0 && eqb end n) v none
whole_value n (Edges (e ∷ f ∷ l)) = none
whole_value n (Refused7 place) = none

abbrev pub agree : Option ℕ → Option ℕ → Bool
agree none none = true
agree none (some v) = false
agree (some u) none = false
agree (some u) (some v) = eqb u v

-- every line of n characters, and of fewer
abbrev prefixed : Taken → List (List Taken) → List (List Taken)
prefixed x [] = []
prefixed x (w ∷ ws) = (x ∷ w) ∷ prefixed x ws

abbrev prefixed_all : List Taken → List (List Taken) → List (List Taken)
prefixed_all [] ws = []
prefixed_all (x ∷ xs) ws = prefixed x ws ++ prefixed_all xs ws

abbrev pub lines : ℕ → List Taken → List (List Taken)
lines zero ts = [] ∷ []
lines (suc n) ts = prefixed_all ts (lines n ts)

abbrev pub shorter : ℕ → List Taken → List (List Taken)
shorter zero ts = []
shorter (suc n) ts = lines n ts ++ shorter n ts

abbrev pub all_agree : List Taken → List (List Taken) → Bool
all_agree ts [] = true
all_agree ts (w ∷ ws) = agree (whole_value (length w) (passes_say ts w)) (grammar_says w) && all_agree ts ws

-- the edges after the fifth pass, with values above TOP too
abbrev pub last_says : List Taken → List Taken → Answer
last_says ts w = answer_of (fifth_list (table_with (map entry ts)) (map (λ x. (entry x).code_point) w)) none

abbrev pub AgreeAlone : Taken → Type 0
AgreeAlone x = (n : ℕ) → whole_value n (last_says (x ∷ []) (replicate n x)) ≡ grammar_says (replicate n x)

abbrev pub Differs : List Taken → List Taken → Answer → Option ℕ → Type 0
Differs ts w a g =
    (passes_say ts w ≡ a) × (grammar_says w ≡ g) × (agree (whole_value (length w) a) g ≡ false) × (all_agree ts (shorter (length w) ts) ≡ true)

abbrev pub Fails : Taken → Record → List Taken → List Taken → Answer → Option ℕ → Type 0
Fails x m ts w a g =
    (regular_record (entry x) ≡ false) × (of_kind x m && own_kinds ts ≡ true) × (regular_records (m ∷ map entry ts) ≡ true) × Differs (x ∷ ts) w a g

-- ---- the records

-- as they should be: 五, 十, 万
abbrev five : Taken
five = asDigit (digit_row cjk (code "五") 5)

abbrev tenth : Taken
tenth = asUnit (unit_row cjk (code "十") 10 10)

abbrev myriad : Record
myriad = large_row cjk (code "万") 10000

-- at a code point: type, value and base, which may be absent, and whether it is a large power
abbrev at : ℕ → Text → Option ℕ → Option ℕ → Bool → Record
at c type v b flag = record { code_point = c; type = type; rom = none; value = v; fraction = none; base = b; mult = none; script = some cjk; large_power = flag }

abbrev x : ℕ
x = code "x"

abbrev circle : ℕ
circle = code "〇"

-- ---- a digit

-- type "digit": of another type digits stand alone. xx would be the run 55
abbrev typeless : Taken
typeless = asDigit (at x base_type (some 5) (some 1) false)

pub digit_type_lem : Fails typeless (at x digit_type (some 5) (some 1) false) [] (typeless ∷ typeless ∷ []) (two 1 5 2 5) (some 55)
unfolding answer_with same from chains
digit_type_lem = (refl, refl, refl, (refl, refl, refl, refl))

-- value 0 to 9: a digit of value 10 stands alone. xx would be the run 110
abbrev digit_ten : Taken
digit_ten = asDigit (at x digit_type (some 10) (some 1) false)

pub digit_value_lem : Fails digit_ten (at x digit_type (some 9) (some 1) false) [] (digit_ten ∷ digit_ten ∷ []) (two 1 10 2 10) (some 110)
unfolding answer_with same from chains
digit_value_lem = (refl, refl, refl, (refl, refl, refl, refl))

-- base 1: no unit multiplies another base. x十 would be 50
abbrev digit_base : Taken
digit_base = asDigit (at x digit_type (some 5) (some 2) false)

pub digit_base_lem : Fails digit_base (at x digit_type (some 5) (some 1) false) (tenth ∷ []) (digit_base ∷ tenth ∷ []) (two 1 5 2 10) (some 50)
unfolding answer_with same from chains decimal decimal_within
digit_base_lem = (refl, refl, refl, (refl, refl, refl, refl))

-- no large power: G3 multiplies by one, and G2 adds none. 十x would be 15
abbrev digit_large : Taken
digit_large = asDigit (at x digit_type (some 5) (some 1) true)

pub digit_not_large : Fails digit_large (at x digit_type (some 5) (some 1) false) (tenth ∷ []) (tenth ∷ digit_large ∷ []) (one 2 50) (some 15)
unfolding answer_with same from chains decimal decimal_within
digit_not_large = (refl, refl, refl, (refl, refl, refl, refl))

-- ---- a unit

-- value 10 or more: of type "digit" xx is a run, where the grammar has two units, the second not below the first; of another type one place of value 1 to 9 counts as
-- thousands after 万, where the grammar adds it
abbrev unit_digit : Taken
unit_digit = asUnit (at x digit_type (some 5) (some 5) false)

pub unit_value_digit : Fails unit_digit (at x digit_type (some 10) (some 5) false) [] (unit_digit ∷ unit_digit ∷ []) (one 2 55) none
unfolding answer_with same from chains decimal decimal_within
unit_value_digit = (refl, refl, refl, (refl, refl, refl, refl))

abbrev unit_five : Taken
unit_five = asUnit (at x base_type (some 5) (some 5) false)

pub unit_value : Fails unit_five (at x base_type (some 10) (some 5) false) (asLarge myriad ∷ []) (asLarge myriad ∷ unit_five ∷ []) (one 2 15000) (some 10005)
unfolding answer_with same from chains decimal decimal_within power_of_ten power_within
unit_value = (refl, refl, refl, (refl, refl, refl, refl))

-- base 2 or more: a base of 1 multiplies nothing. 五x would be 50
abbrev unit_one : Taken
unit_one = asUnit (at x base_type (some 10) (some 1) false)

pub unit_base_lem : Fails unit_one (at x base_type (some 10) (some 2) false) (five ∷ []) (five ∷ unit_one ∷ []) (two 1 5 2 10) (some 50)
unfolding answer_with same from chains decimal decimal_within
unit_base_lem = (refl, refl, refl, (refl, refl, refl, refl))

-- base up to the value: the second x is not below the first's base, so that xx五 is no numeral; but G4 joins x and x五, whose base is 1
abbrev unit_base : Taken
unit_base = asUnit (at x base_type (some 10) (some 16) false)

pub unit_base_value : Fails unit_base (at x base_type (some 10) (some 10) false) (five ∷ []) (unit_base ∷ unit_base ∷ five ∷ []) (one 3 25) none
unfolding answer_with same from chains decimal decimal_within
unit_base_value = (refl, refl, refl, (refl, refl, refl, refl))

-- no large power: with the other parts and this flag the record is of the third kind, so that no table is irregular for want of this part; but the record is no unit:
-- taken for one, 万 would make 万五 10005
pub unit_not_large : (r : Record) → at_least 10 r.value ≡ true → at_least 2 r.base ≡ true → r.large_power ≡ true → large_record r ≡ true
unit_not_large r v b l = rw (v, b, l)

pub unit_taken_large : Differs (asUnit myriad ∷ five ∷ []) (asUnit myriad ∷ five ∷ []) (one 2 15000) (some 10005)
unfolding answer_with same from chains decimal decimal_within
unit_taken_large = (refl, refl, refl, refl)

-- not 零 or 〇: a gap joins a gap. 〇〇 would be no numeral
abbrev unit_circle : Taken
unit_circle = asUnit (at circle base_type (some 10) (some 10) false)

pub unit_not_gap : Fails unit_circle (at x base_type (some 10) (some 10) false) [] (unit_circle ∷ unit_circle ∷ []) (one 2 20) none
unfolding answer_with same from chains decimal decimal_within
unit_not_gap = (refl, refl, refl, (refl, refl, refl, refl))

-- ---- a large power

-- value 10 or more, as for a unit: xx would be no numeral, neither of type "digit", where D1 makes a run of it, nor of another with the base 1000, where one place of value 1 to 9
-- counts as hundreds
abbrev large_digit : Taken
large_digit = asLarge (at x digit_type (some 5) (some 5) true)

pub large_value_digit : Fails large_digit (at x digit_type (some 10) (some 5) true) [] (large_digit ∷ large_digit ∷ []) (one 2 55) none
unfolding answer_with same from chains decimal decimal_within power_of_ten power_within
large_value_digit = (refl, refl, refl, (refl, refl, refl, refl))

abbrev large_five : Taken
large_five = asLarge (at x large_type (some 5) (some 1000) true)

pub large_value_lem : Fails large_five (at x large_type (some 10) (some 1000) true) [] (large_five ∷ large_five ∷ []) (one 2 505) none
unfolding answer_with same from chains decimal decimal_within power_of_ten power_within
large_value_lem = (refl, refl, refl, (refl, refl, refl, refl))

-- base 2 or more: 十 multiplies what has base 1. x十 would be no numeral
abbrev large_one : Taken
large_one = asLarge (at x large_type (some 10) (some 1) true)

pub large_base_lem : Fails large_one (at x large_type (some 10) (some 2) true) (tenth ∷ []) (large_one ∷ tenth ∷ []) (one 2 100) none
unfolding answer_with same from chains decimal decimal_within power_of_ten power_within
large_base_lem = (refl, refl, refl, (refl, refl, refl, refl))

-- ---- any other: no line with such a character is a numeral

-- no value
abbrev other_five : Taken
other_five = asOther (at x base_type (some 5) none false)

pub other_value : Fails other_five (at x base_type none none false) [] (other_five ∷ []) (one 1 5) none
unfolding answer_with same from chains
other_value = (refl, refl, refl, (refl, refl, refl, refl))

-- no base above 1 unless it is a large power: it would multiply, by 0
abbrev other_base : Taken
other_base = asOther (at x base_type none (some 2) false)

pub other_base_lem : Fails other_base (at x base_type none (some 1) false) (five ∷ []) (five ∷ other_base ∷ []) (one 2 0) none
unfolding answer_with same from chains decimal decimal_within
other_base_lem = (refl, refl, refl, (refl, refl, refl, refl))

-- not 零 or 〇: a gap joins whatever it has
abbrev other_circle : Taken
other_circle = asOther (at circle base_type none none false)

pub other_not_gap : Fails other_circle (at x base_type none none false) (five ∷ []) (five ∷ other_circle ∷ []) (one 2 5) none
unfolding answer_with same from chains decimal decimal_within
other_not_gap = (refl, refl, refl, (refl, refl, refl, refl))

-- The plain grammar (`specs/Grammar.antt`) is the grammar of the plain table: the sixteen characters are the plain records, a plain division is one of the table's characters
-- with each character replaced by its record, with the same value, and a line has a reading by one exactly where it has one by the other: what is shown of any two alphabets
-- that say the same (`table_grammar`, proofs/Alphabets.antt). No pass is named.
-- In order: the characters; the two alphabets say the same; the instance.
use mathlib.Core.Path.{◌≡◌, refl, sym, ap, ◌∙◌}
use mathlib.Core.Logic.{◌↔◌}
use mathlib.Core.Bool.{true}
use mathlib.Core.List.{List, [], ◌∷◌, map}
use mathlib.Core.Option.{Option, some, some-injective}
use lib.Dec.{eqb}
use Rattle.text.specs.Bytes.{same}
use Rattle.passes.specs.Passes.{power_of_ten, power_within}
use Rattle.passes.specs.Renaming.{gap_char}
use Rattle.table_grammar.specs.Grammar.{digit, ten, large, small, block, lone, division_value, ReadingOf}
use Rattle.table_grammar.specs.Kinds.{Digit, Ten, Large, Char, digit_record, unit_record, large_record, char_of, chars_of}
use Rattle.table_grammar.specs.TableGrammar.{high, kinds, Member, Division, Reading}
use Rattle.table_grammar.proofs.Alphabets.{char_by, member_by, division_by, Same, replaced, restored, same_value}
use Rattle.grammar.specs.Plain.{plain_record, plain_records, plain, code_point}
use Rattle.grammar.specs.Plain as Plain
use Rattle.grammar.specs.Grammar.{plainly}
use Rattle.grammar.specs.Grammar as Plainly
use Rattle.grammar.proofs.Sixteen.{each}
use Rattle.grammar.proofs.PlainEdges.{find_plain}

-- ---- the characters
unfoldable pub digit_kind : (d : Plain.Digit) → digit_record (plain_record (digit d)) ≡ true
unfolding plain_record same
digit_kind Plain.零 = refl
digit_kind Plain.一 = refl
digit_kind Plain.二 = refl
digit_kind Plain.三 = refl
digit_kind Plain.四 = refl
digit_kind Plain.五 = refl
digit_kind Plain.六 = refl
digit_kind Plain.七 = refl
digit_kind Plain.八 = refl
digit_kind Plain.九 = refl

unfoldable pub ten_kind : (t : Plain.Ten) → unit_record (plain_record (ten t)) ≡ true
unfolding plain_record
ten_kind Plain.十 = refl
ten_kind Plain.百 = refl
ten_kind Plain.千 = refl

unfoldable pub large_kind : (l : Plain.Large) → large_record (plain_record (large l)) ≡ true
unfolding plain_record
large_kind Plain.万 = refl
large_kind Plain.億 = refl
large_kind Plain.兆 = refl

abbrev pub table_digit : Plain.Digit → Digit
table_digit d = record { entry = plain_record (digit d); law = digit_kind d }

abbrev pub table_ten : Plain.Ten → Ten
table_ten t = record { entry = plain_record (ten t); law = ten_kind t }

abbrev pub table_large : Plain.Large → Large
table_large l = record { entry = plain_record (large l); law = large_kind l }

-- a plain character as a character of the plain table, and likewise a member and a division
abbrev pub table_char : Plain.Char → Char
table_char = char_by table_digit table_ten table_large

abbrev pub table_member : Plainly.Member → Member
table_member = member_by table_digit table_ten table_large

abbrev pub table_division : Plainly.Division → Division
table_division = division_by table_digit table_ten table_large

-- ---- the two alphabets say the same

-- of the ten digits 零 alone is a gap character
zero_gap : (d : Plain.Digit) → gap_char (table_digit d).entry.code_point ≡ eqb (Plain.digit_value d) 0
unfolding plain_record
zero_gap Plain.零 = refl
zero_gap Plain.一 = refl
zero_gap Plain.二 = refl
zero_gap Plain.三 = refl
zero_gap Plain.四 = refl
zero_gap Plain.五 = refl
zero_gap Plain.六 = refl
zero_gap Plain.七 = refl
zero_gap Plain.八 = refl
zero_gap Plain.九 = refl

-- of every 万, 億 and 兆 the script is CJK and the base a power of ten from 1000 on
large_tenths : (l : Plain.Large) → high (table_large l).entry ≡ true
unfolding plain_record power_of_ten power_within same
large_tenths Plain.万 = refl
large_tenths Plain.億 = refl
large_tenths Plain.兆 = refl

member_tenths : (m : Plainly.Member) → kinds.tenths (table_member m) ≡ true
member_tenths (small s) = refl
member_tenths (block s l) = large_tenths l
member_tenths (lone l) = large_tenths l

same_alphabets : Same table_digit table_ten table_large plainly kinds
unfolding plain_record
same_alphabets = record {
  digit_value_lem = λ d. refl;
  ten_value_lem = λ t. refl;
  ten_base_lem = λ t. refl;
  large_value_lem = λ l. refl;
  large_base_lem = λ l. refl;
  zero = zero_gap;
  tenths = member_tenths;
}

-- ---- the instance: of a line of plain characters w
char_of_lem : (c : Plain.Char) → char_of (plain_record c) ≡ some (table_char c)
unfolding plain_record same digit_kind ten_kind large_kind
char_of_lem = each (λ c. char_of (plain_record c) ≡ some (table_char c)) (refl, refl, refl, refl, refl, refl, refl, refl, refl, refl, refl, refl, refl, refl, refl, refl)

chars_of_lem : (w : List Plain.Char) → chars_of plain_records (map code_point w) ≡ some (map table_char w)
chars_of_lem [] = refl
chars_of_lem (c ∷ w) = rw (find_plain c, char_of_lem c, chars_of_lem w)

module _ (w : List Plain.Char) where
  -- a reading of the line by the plain table is one of its records
  by_table_lem : ReadingOf kinds (map table_char w) → Reading plain (map code_point w)
  unfolding plain
  by_table_lem r = record { division = r.division; whole = chars_of_lem w ∙ ap {B = Option (List Char)} some (sym r.whole); rules = r.rules }

  by_records_lem : Reading plain (map code_point w) → ReadingOf kinds (map table_char w)
  unfolding plain
  by_records_lem r = record { division = r.division; whole = some-injective _ _ (sym r.whole ∙ chars_of_lem w); rules = r.rules }

  pub from_plain : Plainly.Reading w → Reading plain (map code_point w)
  from_plain r = by_table_lem (replaced table_digit table_ten table_large plainly kinds same_alphabets w r)

  pub to_plain : Reading plain (map code_point w) → Plainly.Reading w
  to_plain r = restored table_digit table_ten table_large plainly kinds same_alphabets w (by_records_lem r)

  pub plain_instance : Plainly.Reading w ↔ Reading plain (map code_point w)
  plain_instance = (from_plain, to_plain)

  -- the two divisions are the same, and so are the values
  pub same_plain : (x : Plainly.Reading w) (y : Reading plain (map code_point w))
      → (y.division ≡ table_division x.division) × (division_value kinds y.division ≡ Plainly.division_value x.division)
  unfolding by_records_lem
  same_plain x y = same_value table_digit table_ten table_large plainly kinds same_alphabets w x (by_records_lem y)

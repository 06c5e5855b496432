-- The grammar of numerals over the plain table's characters (01, "Grammar"): that of crate `table_grammar`, specs/Grammar.antt, with 零 to 九 for the digits, 十百千 for the
-- units and 万億兆 for the large powers. That it is the grammar of the plain table: `proofs/PlainInstance.antt`. Definitions only.
--     plainly          the plain alphabet
--     Atom, Member, Division   a division of a line of the sixteen
--     Reading w        a reading of the line w; w is a numeral where it has one
-- The rest are the grammar's words with the plain alphabet.
--     Assumes nothing.
use Rattle.std.specs.Prelude.{ℕ, Bool, true, List, eqb}
use Rattle.std.proofs.Math.Option.{Option}
use Rattle.table_grammar.specs.Row.{Row}
use Rattle.table_grammar.specs.Grammar as Of
pub use Rattle.table_grammar.specs.Grammar.{run, times, power, small, block, lone, IsBlock, Below, member_text, division_text}
use Rattle.grammar.specs.Plain.{Digit, Ten, Large, Char, digit_value, ten_value, large_value}

-- 十百千 and 万億兆 have their values for bases; "a single 一 to 九 after a block counts as digit times base/10" after every one
abbrev pub plainly : Of.Alphabet Digit Ten Large
plainly = record {
  digit_value = digit_value;
  ten_value = ten_value;
  ten_base = ten_value;
  large_value = large_value;
  large_base = large_value;
  is_zero = λ d. eqb (digit_value d) 0;
  tenths = λ m. true;
}

abbrev pub Atom : Type 0
Atom = Of.AtomOf Digit Ten

abbrev pub Member : Type 0
Member = Of.MemberOf Digit Ten Large

abbrev pub Division : Type 0
Division = Of.DivisionOf Digit Ten Large

abbrev pub Reading : List Char → Type 0
Reading w = Of.ReadingOf plainly w

-- ---- values and bases
abbrev pub run_value : Row Digit → ℕ
run_value r = Of.run_value plainly r

abbrev pub atom_value : Atom → ℕ
atom_value a = Of.atom_value plainly a

abbrev pub atom_base : Atom → ℕ
atom_base a = Of.atom_base plainly a

abbrev pub small_value : Row Atom → ℕ
small_value s = Of.small_value plainly s

abbrev pub small_base : Row Atom → ℕ
small_base s = Of.small_base plainly s

abbrev pub member_value : Member → ℕ
member_value m = Of.member_value plainly m

abbrev pub member_base : Member → ℕ
member_base m = Of.member_base plainly m

abbrev pub single_digit : Member → ℕ
single_digit m = Of.single_digit plainly m

-- after a block of base n
abbrev pub count_value : ℕ → Member → ℕ
count_value n m = Of.count_value plainly true n m

abbrev pub count_base : ℕ → Member → ℕ
count_base n m = Of.count_base plainly true n m

abbrev pub division_value : Division → ℕ
division_value d = Of.division_value plainly d

-- ---- the rules
abbrev pub IsAtom : Atom → Type 0
IsAtom a = Of.IsAtom plainly a

abbrev pub Follows : Atom → Atom → Type 0
Follows a b = Of.Follows plainly a b

abbrev pub lone_zero : Atom → Bool
lone_zero a = Of.lone_zero plainly a

abbrev pub near_base : Row Atom → Option ℕ
near_base s = Of.near_base plainly s

abbrev pub IsSmall : Row Atom → Type 0
IsSmall s = Of.IsSmall plainly s

abbrev pub IsMember : Member → Type 0
IsMember m = Of.IsMember plainly m

abbrev pub IsNumeral : Division → Type 0
IsNumeral d = Of.IsNumeral plainly d

-- ---- characters
abbrev pub run_text : Row Digit → List Char → List Char
run_text r w = Of.run_text r w

abbrev pub atom_text : Atom → List Char → List Char
atom_text a w = Of.atom_text a w

abbrev pub small_text : Row Atom → List Char → List Char
small_text s w = Of.small_text s w

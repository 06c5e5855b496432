-- The grammar over the characters of a table: that of `specs/Grammar.antt` with the table's digits, units and large powers. Where 01's goes by what the plain table's
-- characters have in common, this one asks the record: the base of a unit or a large power, which may differ from its value, and a lone 零, which may be 〇; and a single
-- digit counts by base/10 where the base and the script before it say so, as they do of every 万, 億 and 兆. That the plain grammar is the instance of the plain table:
-- grammar's `proofs/PlainInstance.antt`. Definitions only.
--     by_records d t l     the alphabet of characters whose records are d, t and l
--     kinds               that of the characters of `specs/Kinds.antt`
--     Reading t w         a reading of the line of the code points w by the table t: a division of the whole of it by the rules; w is a numeral by t where it has one
--     Assumes nothing.
use Rattle.std.specs.Prelude.{ℕ, ◌≡◌, Bool, true, ◌&&◌, List, [], leb}
use Rattle.std.proofs.Math.Option.{some}
use Rattle.table.specs.Table.{Record, Table}
use Rattle.passes.specs.NumEdge.{or_zero}
use Rattle.passes.specs.Passes.{cjk, is_script, power_of_ten}
use Rattle.passes.specs.Renaming.{gap_char}
use Rattle.table_grammar.specs.Grammar.{AtomOf, MemberOf, small, block, lone, DivisionOf, Alphabet, IsNumeral, division_text}
use Rattle.table_grammar.specs.Kinds.{Digit, Ten, Large, chars_of}

-- the script is CJK and the base a power of ten from 1000 on
abbrev pub high : Record → Bool
high r = is_script r.script cjk && leb 1000 (or_zero r.base) && power_of_ten (or_zero r.base)

module _ {D T L : Type 0} (d : D → Record) (t : T → Record) (l : L → Record) where
  -- no member follows a small, so that what is said of one does not matter
  abbrev pub tenths_by : MemberOf D T L → Bool
  tenths_by (small s) = true
  tenths_by (block s x) = high (l x)
  tenths_by (lone x) = high (l x)

  abbrev pub by_records : Alphabet D T L
  by_records = record {
    digit_value = λ x. or_zero (d x).value;
    ten_value = λ x. or_zero (t x).value;
    ten_base = λ x. or_zero (t x).base;
    large_value = λ x. or_zero (l x).value;
    large_base = λ x. or_zero (l x).base;
    is_zero = λ x. gap_char (d x).code_point;
    tenths = tenths_by;
  }

abbrev pub kinds : Alphabet Digit Ten Large
kinds = by_records (λ d. d.entry) (λ t. t.entry) (λ l. l.entry)

abbrev pub Atom : Type 0
Atom = AtomOf Digit Ten

abbrev pub Member : Type 0
Member = MemberOf Digit Ten Large

abbrev pub Division : Type 0
Division = DivisionOf Digit Ten Large

pub record Reading (t : Table) (w : List ℕ) : Type 0 where
  pub division : Division
  pub whole : chars_of t.records w ≡ some (division_text division [])
  pub rules : IsNumeral kinds division

-- A numeric edge with 01's fields, as the passes see it: values are whole numbers, texts are bytes. Definitions only.
--     NumEdge            the edge; a field that is absent is none
--     placed i j x o e   the edge e from i to j, with txt x and orig_txt o
--     or_zero o           a number, where a missing one counts as 0
--     has o              the number is there
--     above e            e has a value, and it is above TOP
--     first_above es      the start of the first edge of es whose value is above TOP, where there is one
--     Assumes nothing.
use Rattle.std.specs.Prelude.{ℕ, Bool, true, false, cond, List, [], ◌∷◌, ltb}
use Rattle.std.proofs.Math.Option.{Option, none, some}
use Rattle.table.specs.Table.{Text}
use Rattle.whole.specs.Whole.{TOP}

pub record NumEdge : Type 0 where
  -- places: characters of the line
  pub start : ℕ
  pub end : ℕ
  pub type : Text
  pub txt : Text
  pub orig_txt : Text
  pub value : Option ℕ
  -- numerator and denominator
  pub fraction : Option (ℕ × ℕ)
  pub base : Option ℕ
  pub mult : Option ℕ
  pub script : Option Text
  pub large_power : Bool
  pub active : Bool
  pub value_s : Option Text

-- the edge e from start to end, with the texts x and o
abbrev pub placed : ℕ → ℕ → Text → Text → NumEdge → NumEdge
placed start end x o e = record {
  start = start;
  end = end;
  type = e.type;
  txt = x;
  orig_txt = o;
  value = e.value;
  fraction = e.fraction;
  base = e.base;
  mult = e.mult;
  script = e.script;
  large_power = e.large_power;
  active = e.active;
  value_s = e.value_s;
}

abbrev pub or_zero : Option ℕ → ℕ
or_zero none = 0
or_zero (some n) = n

abbrev pub has : Option ℕ → Bool
has none = false
has (some n) = true

abbrev pub above : NumEdge → Bool
above e = ltb TOP (or_zero e.value)

unfoldable pub first_above : List NumEdge → Option ℕ
first_above [] = none
first_above (e ∷ es) = cond (above e) (some e.start) (first_above es)

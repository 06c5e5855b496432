-- The passes' edges as they are listed (01: "value and base_multiplier (mult) are f64, listed as 8 bytes of their bits"). Definitions only.
--     listed_edge e      the passes' edge e in the listing's form
--     listed_decimal e   that of an edge of the passes with decimals (02, S-13)
--     whole_value e      the value of a listed edge as a whole number, where it has one; an edge with decimals has none
--     Assumes nothing.
use Rattle.std.specs.Prelude.{ℕ, zero, suc}
use Rattle.std.proofs.Math.Option.{Option, none, some, map}
use Rattle.std.specs.Float.{binary64}
use Rattle.std.specs.Float.Ieee.{to_bits, of_bits, to_unsigned}
use Rattle.decimals.specs.Quotient.{quotient}
use Rattle.passes.specs.NumEdge.{NumEdge}
use Rattle.passes.specs.DecimalPasses.{DecimalEdge}
use Rattle.edge.specs.Edge.{Edge, Numeric, f64_bits}

-- with the bits of its value, and its decimals
abbrev pub listed_with : Option ℕ → Option ℕ → NumEdge → Edge
listed_with value decimals e = record {
  start = e.start;
  end = e.end;
  type = e.type;
  txt = e.txt;
  num = some (record {
    orig = e.orig_txt;
    value = value;
    fraction = e.fraction;
    base = e.base;
    mult = map f64_bits e.mult;
    script = e.script;
    large = e.large_power;
    active = e.active;
    value_s = e.value_s;
    decimals = decimals;
  });
}

unfoldable pub listed_edge : NumEdge → Edge
listed_edge e = listed_with (map f64_bits e.value) none e

-- "The value is the digits without the point, at most TOP, divided in f64 by the power of ten."
abbrev pub quotient_bits : ℕ → ℕ → ℕ
quotient_bits k v = to_bits binary64 (quotient v k)

abbrev pub listed_by : ℕ → NumEdge → Edge
listed_by zero e = listed_edge e
listed_by (suc k) e = listed_with (map (quotient_bits (suc k)) e.value) (some (suc k)) e

unfoldable pub listed_decimal : DecimalEdge → Edge
listed_decimal e = listed_by e.decimals e.edge

-- of a count of decimals and the bits of a value: 02, S-13: "The rules on whole left and right values pass it by, even at 100.0"
abbrev pub whole_of : Option ℕ → Option ℕ → Option ℕ
whole_of none bits = map (λ b. to_unsigned 64 (of_bits binary64 b)) bits
whole_of (some k) bits = none

abbrev pub value_of : Option Numeric → Option ℕ
value_of none = none
value_of (some n) = whole_of n.decimals n.value

unfoldable pub whole_value : Edge → Option ℕ
whole_value e = value_of e.num

-- What the code says of the fields of an edge that a choice makes, and of the edges that it uses (`fractions::new_edge` has the other forms). Definitions only.
--     HeadIs w e v          v is the head of the edge e, which stands in w
--     script_from c s        the script that the code's answer s says, its bytes at the front of the buffer c
--     fraction_fields ..     the fields of a fraction: bits 0 (numeric), 2 (fraction) and 7 (active), and 5 where there is a script
--     fraction_with ..       the fraction with this text, these numbers and this script
--     txt_percent_of es p j   the edge that the form TxtPercent makes: the txt of the edge j of es and "%", from place p on
--     HoldsCall n w l es    w and l hold the edges es of a call over a line of n characters
--     Assumes nothing.
use Rattle.std.specs.Prelude.{◌≡◌, true, false, List, ℕ, ◌+◌, ◌≤◌, length, get_or, Some, None}
use Rattle.std.proofs.Math.Option.{Option, none, some}
use Rattle.fields.specs.Part.{part, part_of}
use Rattle.edge.specs.Edge.{Text, Edge, Numeric, map_of}
use Rattle.edge.specs.Layout.{fields_end, numeric_at}
use Rattle.edge.specs.View.{no_part}
use Rattle.edge.specs.declared.EdgeView.{EdgeView}
use Rattle.edge.specs.declared.NumFields.{NumFields}
use Rattle.lattice.specs.declared.Lattice.{Lattice}
use Rattle.lattice.specs.Kept.{no_edge, Holds}
use Rattle.numbers.specs.CallEdge.{CallEdges}
use Rattle.numbers.specs.Fractions.{fraction_type, percent_edge}
use Rattle.std.specs.Prelude as std

pub record HeadIs (w : List ℕ) (e : Edge) (v : EdgeView) : Type 0 where
  pub map : v.map ≡ map_of e.num
  pub start : v.start.0 ≡ e.start
  pub end : v.end.0 ≡ e.end
  pub txt : part_of w v.txt ≡ e.txt
  pub size : v.txt.len ≡ length e.txt
  pub inside : v.txt.at.0 + v.txt.len ≤ length w
  pub numeric : (x : Numeric) → e.num ≡ some x → (fields_end v.map w v.fields.0 ≤ length w) × (numeric_at v.map w v.fields.0 ≡ x)

-- ---- the fields of a fraction
unfoldable pub script_from : List ℕ → std.Option ℕ → Option Text
script_from c None = none
script_from c (Some k) = some (part c 0 k)

abbrev pub script_len : std.Option ℕ → ℕ
script_len None = 0
script_len (Some k) = k

unfoldable pub fraction_fields : ℕ → ℕ → ℕ → std.Option ℕ → NumFields
fraction_fields n a b None = record {
  map = 133;
  value = 0;
  numerator = a;
  denominator = b;
  base = 0;
  base_multiplier = 0;
  orig = record { at = record { 0 = 0 }; len = n };
  script = no_part;
  value_s = no_part;
  decimals = 0;
}
fraction_fields n a b (Some k) = record {
  map = 165;
  value = 0;
  numerator = a;
  denominator = b;
  base = 0;
  base_multiplier = 0;
  orig = record { at = record { 0 = 0 }; len = n };
  script = record { at = record { 0 = 0 }; len = k };
  value_s = no_part;
  decimals = 0;
}

-- the fraction with text t, numerator and denominator f, and this script
unfoldable pub fraction_with : ℕ → ℕ → Text → ℕ × ℕ → Option Text → Edge
fraction_with a z t f script = record {
  start = a;
  end = z;
  type = fraction_type;
  txt = t;
  num = some (record {
    orig = t;
    value = none;
    fraction = some f;
    base = none;
    mult = none;
    script = script;
    large = false;
    active = true;
    value_s = none;
    decimals = none;
  });
}

abbrev pub txt_percent_of : List Edge → ℕ → ℕ → Edge
txt_percent_of es p j = percent_edge p (get_or es j no_edge).end (get_or es j no_edge).txt

-- ---- the lattice
pub record HoldsCall (n : ℕ) (w : List ℕ) (l : Lattice) (es : List Edge) : Type 0 where
  pub holds : Holds w l es
  pub call : CallEdges n es

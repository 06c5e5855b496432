-- An edge of the pass list as a value: numbers and marks, with the texts left in the line and in the table. Definitions only.
--     StoredEdge           the edge; where a `has-` mark is false, the field is absent and its number is 0 (`proofs/` say where that is kept)
--     num_data x      the numeric data of x, as the code has it: the value and the multiplier as f64
--     pass_edge x     x as the code has it
--     Small x        the numbers of x that 01 bounds are at most TOP
--     Every P l      P holds of each element of l; AllSmall l: each stored edge of l is small
--     Fits x         besides, all numbers of x fit their fields in the list
--     EdgeIs e x     the code's edge e is x, and x fits
--     NumIs n x      likewise, of the numeric data alone
-- Assumes nothing.
use Rattle.std.specs.Prelude.{◌≡◌, Bool, List, [], ◌∷◌, ℕ, ◌^◌, ◌≤◌, ◌<◌}
use Rattle.whole.specs.Whole.{TOP, of_nat}
use Rattle.pass_list.specs.declared.record.PassData.{PassData}
use Rattle.pass_list.specs.declared.record.PassEdge.{PassEdge}
use Rattle.pass_list.specs.declared.kind.Kind.{Kind}

pub record StoredEdge : Type 0 where
  -- places
  pub start : ℕ
  pub end : ℕ
  pub kind : Kind
  -- the offset of the character's record in the table
  pub record_offset : ℕ
  pub value : ℕ
  pub base : ℕ
  pub mult : ℕ
  -- the script's bytes in the table: their offset and how many
  pub script_offset : ℕ
  pub script_len : ℕ
  pub has_value : Bool
  pub has_base : Bool
  pub has_mult : Bool
  pub has_script : Bool
  pub large_power : Bool
  -- D1's digit; a gap; script cjk_bit
  pub digit : Bool
  pub gap : Bool
  pub cjk : Bool
  -- how many digits stand after the point (02, S-13)
  pub decimals : ℕ
  -- a point without a record stands at its end
  pub point : Bool

abbrev pub num_data : StoredEdge → PassData
num_data x = record {
  value = of_nat x.value;
  base_multiplier = of_nat x.mult;
  base = x.base;
  has_value = x.has_value;
  has_base = x.has_base;
  has_mult = x.has_mult;
  has_script = x.has_script;
  large_power = x.large_power;
  digit = x.digit;
  gap = x.gap;
  cjk = x.cjk;
  decimals = x.decimals;
  point = x.point;
  script = record { 0 = x.script_offset };
  script_len = x.script_len;
}

abbrev pub pass_edge : StoredEdge → PassEdge
pass_edge x = record {
  start = record { 0 = x.start };
  end = record { 0 = x.end };
  kind = x.kind;
  record_at = record { 0 = x.record_offset };
  num = num_data x;
}

pub record Small (x : StoredEdge) : Type 0 where
  pub value : x.value ≤ TOP
  pub base : x.base ≤ TOP
  pub mult : x.mult ≤ TOP

pub data Every {A : Type 0} (P : A → Type 0) : List A → Type 0 where
  nil : Every P []
  cons : {x : A} {l : List A} → P x → Every P l → Every P (x ∷ l)

abbrev pub AllSmall : List StoredEdge → Type 0
AllSmall = Every Small

pub record Fits (x : StoredEdge) : Type 0 where
  pub small : Small x
  pub start : x.start < 2 ^ 16
  pub end : x.end < 2 ^ 16
  pub record_offset : x.record_offset < 2 ^ 64
  pub script_offset : x.script_offset < 2 ^ 64
  pub script_len : x.script_len < 2 ^ 64
  pub decimals : x.decimals < 2 ^ 4

pub record NumIs (n : PassData) (x : StoredEdge) : Type 0 where
  pub is : n ≡ num_data x
  pub fits : Fits x

pub record EdgeIs (e : PassEdge) (x : StoredEdge) : Type 0 where
  pub is : e ≡ pass_edge x
  pub fits : Fits x

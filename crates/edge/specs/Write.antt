-- What the writers leave: the bytes of an edge at an offset of a lent list, or the list as it was. Definitions only.
--     written s at bs     the answer of a writer of the bytes bs at an offset of s: the offset behind them, or that there is no room
--     written_to s at bs   what s is then
--     Put s t at r bs     t is s with the bytes bs from at on, which end at r
--     numbers_bytes d      the numbers of the fields d as they are listed
--     fields_past d at     where the fields d end that are written from at on; texts_past d at: their texts
--     Writable .. d       the fields d can be listed: their map may stand in a numeric edge, their texts are within the lists and have a u16 length
--     fields_of d          the fields of numeric data, their floats as bits
--     Assumes nothing.
use Rattle.std.specs.Prelude.{◌≡◌, Bool, true, cond, List, ◌++◌, ℕ, ◌+◌, ◌≤◌, ◌<◌, leb, length, Some, None}
use Rattle.std.proofs.Math.Option.{none, some}
use Rattle.std.proofs.lemmas.List.Edits.{sets}
use Rattle.std.specs.Float.{binary64}
use Rattle.std.specs.Float.Ieee.{to_bits}
use Rattle.fields.specs.Fields.{bytes_of, u16_limit}
use Rattle.fields.specs.Flag.{bytes_if}
use Rattle.edge.specs.declared.NumFields.{NumFields}
use Rattle.edge.specs.declared.NumData.{NumData}
use Rattle.edge.specs.Edge.{Text, Edge, fraction_bytes}
use Rattle.edge.specs.Layout.{bit, stands, only, script_at}
use Rattle.edge.specs.View.{numeric_of}
use Rattle.std.specs.Prelude as std

abbrev pub written : List ℕ → ℕ → List ℕ → std.Option ℕ
written s at bs = cond (leb (at + length bs) (length s)) (Some (at + length bs)) None

abbrev pub written_to : List ℕ → ℕ → List ℕ → List ℕ
written_to s at bs = cond (leb (at + length bs) (length s)) (sets s at bs) s

pub record Put (s t : List ℕ) (at r : ℕ) (bs : List ℕ) : Type 0 where
  pub wrote : t ≡ sets s at bs
  pub next : r ≡ at + length bs

-- ---- edges
abbrev pub regular : ℕ → ℕ → Text → Text → Edge
regular a z ty tx = record { start = a; end = z; type = ty; txt = tx; num = none }

abbrev pub numeric : ℕ → ℕ → Text → Text → List ℕ → List ℕ → List ℕ → NumFields → Edge
numeric a z ty tx o c v d = record { start = a; end = z; type = ty; txt = tx; num = some (numeric_of o c v d) }

-- ---- fields
unfoldable pub numbers_bytes : NumFields → List ℕ
numbers_bytes d =
    bytes_if (bytes_of 8) (only (stands 1 d.map) d.value) ++ (bytes_if fraction_bytes (only (stands 2 d.map) (d.numerator, d.denominator))
    ++ (bytes_if (bytes_of 8) (only (stands 3 d.map) d.base) ++ bytes_if (bytes_of 8) (only (stands 4 d.map) d.base_multiplier)))

-- behind a text of n bytes that is there only if its bit stands
abbrev pub text_past_if : Bool → ℕ → ℕ → ℕ
text_past_if on n at = cond on (at + 2 + n) at

-- behind the texts of fields that are written from at on
unfoldable pub texts_past : NumFields → ℕ → ℕ
texts_past d at = text_past_if (stands 8 d.map) d.value_s.len (text_past_if (stands 5 d.map) d.script.len (script_at d.map (at + 2 + d.orig.len)))

unfoldable pub fields_past : NumFields → ℕ → ℕ
fields_past d at = texts_past d at + bit 9 d.map

pub record Writable (o c v : List ℕ) (d : NumFields) : Type 0 where
  pub numeric : stands 0 d.map ≡ true
  pub map : d.map < 1024
  pub orig : d.orig.at.0 + d.orig.len ≤ length o
  pub script : stands 5 d.map ≡ true → d.script.at.0 + d.script.len ≤ length c
  pub value_s : stands 8 d.map ≡ true → d.value_s.at.0 + d.value_s.len ≤ length v
  pub orig_len : d.orig.len < u16_limit
  pub script_len : d.script.len < u16_limit
  pub value_s_len : d.value_s.len < u16_limit

-- ---- floats
-- the fields of numeric data
unfoldable pub fields_of : NumData → NumFields
fields_of d = record {
  map = d.map;
  value = to_bits binary64 d.value;
  numerator = d.numerator;
  denominator = d.denominator;
  base = d.base;
  base_multiplier = to_bits binary64 d.base_multiplier;
  orig = d.orig;
  script = d.script;
  value_s = d.value_s;
  decimals = d.decimals;
}

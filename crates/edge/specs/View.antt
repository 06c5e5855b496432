-- What the code's structs hold of an edge: offsets of its strings, and its numbers. Definitions only.
--     view_at s at         the head of the edge at an offset
--     fields_at m s at     the fields of a numeric edge with map m whose orig_txt is at an offset; an absent number is 0, an absent string empty
--     numeric_of o c v d   the numeric data that the fields d say, their strings in the lists o (orig_txt), c (script) and v (value_s)
--     Assumes nothing.
use Rattle.std.specs.Prelude.{◌≡◌, ℕ, ◌+◌, ◌≤◌, Bool, true, cond, List}
use Rattle.fields.specs.Fields.{le_at}
use Rattle.fields.specs.Part.{part_of}
use Rattle.edge.specs.declared.EdgeView.{EdgeView}
use Rattle.edge.specs.declared.NumFields.{NumFields}
use Rattle.fields.specs.declared.Part.{Part}
use Rattle.edge.specs.Check.{sound_numbers, sound_numeric}
use Rattle.edge.specs.Edge.{Numeric}
use Rattle.edge.specs.Layout.{stands, only, map_at, string_end, txt_at, head_end, fraction_at, base_at, mult_at, script_at, value_sAt, decimals_at}

-- the text whose length is at an offset
abbrev pub part_at : List ℕ → ℕ → Part
part_at s at = record { at = record { 0 = at + 2 }; len = le_at s at 2 }

abbrev pub no_part : Part
no_part = record { at = record { 0 = 0 }; len = 0 }

unfoldable pub view_at : List ℕ → ℕ → EdgeView
view_at s at = record {
  map = map_at s at;
  start = record { 0 = le_at s (at + 2) 2 };
  end = record { 0 = le_at s (at + 4) 2 };
  ty = part_at s (at + 6);
  txt = part_at s (txt_at s at);
  fields = record { 0 = head_end s at };
}

-- a number whose bit stands
abbrev pub number_if : Bool → List ℕ → ℕ → ℕ
number_if on s at = cond on (le_at s at 8) 0

-- a byte whose bit stands
abbrev pub byte_if : Bool → List ℕ → ℕ → ℕ
byte_if on s at = cond on (le_at s at 1) 0

-- a text whose bit stands
abbrev pub part_if : Bool → List ℕ → ℕ → Part
part_if on s at = cond on (part_at s at) no_part

unfoldable pub fields_at : ℕ → List ℕ → ℕ → NumFields
fields_at m s at =
    let v = string_end s at in
    record {
      map = m;
      value = number_if (stands 1 m) s v;
      numerator = number_if (stands 2 m) s (fraction_at m v);
      denominator = number_if (stands 2 m) s (fraction_at m v + 8);
      base = number_if (stands 3 m) s (base_at m v);
      base_multiplier = number_if (stands 4 m) s (mult_at m v);
      orig = part_at s at;
      script = part_if (stands 5 m) s (script_at m v);
      value_s = part_if (stands 8 m) s (value_sAt m s v);
      decimals = byte_if (stands 9 m) s (decimals_at m s v);
    }

unfoldable pub numeric_of : List ℕ → List ℕ → List ℕ → NumFields → Numeric
numeric_of o c v d = record {
  orig = part_of o d.orig;
  value = only (stands 1 d.map) d.value;
  fraction = only (stands 2 d.map) (d.numerator, d.denominator);
  base = only (stands 3 d.map) d.base;
  mult = only (stands 4 d.map) d.base_multiplier;
  script = only (stands 5 d.map) (part_of c d.script);
  large = stands 6 d.map;
  active = stands 7 d.map;
  value_s = only (stands 8 d.map) (part_of v d.value_s);
  decimals = only (stands 9 d.map) d.decimals;
}

-- the numbers of fields, and all of them, may stand; their texts are in s
unfoldable pub numbers_sound : NumFields → Bool
numbers_sound d =
    sound_numbers (only (stands 2 d.map) (d.numerator, d.denominator)) (only (stands 3 d.map) d.base) (only (stands 9 d.map) d.decimals)

abbrev pub fields_sound : List ℕ → NumFields → Bool
fields_sound s d = sound_numeric (numeric_of s s s d)

-- the texts of fields that are there stand within n bytes
pub record Inside (n : ℕ) (d : NumFields) : Type 0 where
  pub orig : d.orig.at.0 + d.orig.len ≤ n
  pub script : stands 5 d.map ≡ true → d.script.at.0 + d.script.len ≤ n
  pub value_s : stands 8 d.map ≡ true → d.value_s.at.0 + d.value_s.len ≤ n

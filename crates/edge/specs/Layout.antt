-- Where the fields of an edge stand in a list of bytes, each behind the one before, and the edge that they say (01, "Listing"). Definitions only.
--     bit k m           bit k of the map m, 0 or 1
--     stands k m        whether it is 1
--     text_at s at       the string whose u16 length is at an offset; string_end s at is behind it
--     fraction_at ..     where the fields of a numeric edge begin, counted from the end of orig_txt
--     fields_end m s at  behind the fields of a numeric edge with map m whose orig_txt is at an offset
--     next_at s at       behind the edge at an offset: past the end of s where that edge is cut off
--     edge_at s at       the edge at an offset
--     edges_at k s at    the k edges from an offset on
--     listed s          the edges of a listing
--     Bytes past the end of s count as 0, so every offset is defined. Assumes nothing.
use Rattle.std.specs.Prelude.{ℕ, zero, suc, ◌+◌, ◌*◌, ◌/◌, ◌%◌, ◌^◌, Bool, cond, List, [], ◌∷◌, eqb}
use Rattle.std.proofs.Math.Option.{Option, none, some}
use Rattle.fields.specs.Fields.{le_at}
use Rattle.fields.specs.Part.{part}
use Rattle.edge.specs.Edge.{Text, Numeric, Edge}

-- ---- the map
abbrev pub bit : ℕ → ℕ → ℕ
bit k m = m / 2 ^ k % 2

abbrev pub stands : ℕ → ℕ → Bool
stands k m = eqb (bit k m) 1

abbrev pub map_at : List ℕ → ℕ → ℕ
map_at s at = le_at s at 2

-- ---- strings
unfoldable pub text_at : List ℕ → ℕ → Text
text_at s at = part s (at + 2) (le_at s at 2)

unfoldable pub string_end : List ℕ → ℕ → ℕ
string_end s at = at + 2 + le_at s at 2

-- a string that is there only if a bit stands
abbrev pub string_end_if : Bool → List ℕ → ℕ → ℕ
string_end_if on s at = cond on (string_end s at) at

-- ---- the head
abbrev pub txt_at : List ℕ → ℕ → ℕ
txt_at s at = string_end s (at + 6)

-- where the head ends, and orig_txt begins if the edge is numeric
abbrev pub head_end : List ℕ → ℕ → ℕ
head_end s at = string_end s (txt_at s at)

-- ---- the fields of a numeric edge with map m; value begins at the offset v, behind orig_txt
abbrev pub fraction_at : ℕ → ℕ → ℕ
fraction_at m v = v + 8 * bit 1 m

abbrev pub base_at : ℕ → ℕ → ℕ
base_at m v = fraction_at m v + 16 * bit 2 m

abbrev pub mult_at : ℕ → ℕ → ℕ
mult_at m v = base_at m v + 8 * bit 3 m

unfoldable pub script_at : ℕ → ℕ → ℕ
script_at m v = mult_at m v + 8 * bit 4 m

unfoldable pub value_sAt : ℕ → List ℕ → ℕ → ℕ
value_sAt m s v = string_end_if (stands 5 m) s (script_at m v)

-- 02, S-13: "Bit 9 of the listing's map then stands for a u8 count of decimals, after value_s"
unfoldable pub decimals_at : ℕ → List ℕ → ℕ → ℕ
decimals_at m s v = string_end_if (stands 8 m) s (value_sAt m s v)

unfoldable pub fields_end : ℕ → List ℕ → ℕ → ℕ
fields_end m s at = decimals_at m s (string_end s at) + bit 9 m

unfoldable pub next_at : List ℕ → ℕ → ℕ
next_at s at = cond (stands 0 (map_at s at)) (fields_end (map_at s at) s (head_end s at)) (head_end s at)

-- ---- what the fields say
abbrev pub only : {A : Type 0} → Bool → A → Option A
only on a = cond on (some a) none

unfoldable pub numeric_at : ℕ → List ℕ → ℕ → Numeric
numeric_at m s at =
    let v = string_end s at in
    record {
      orig = text_at s at;
      value = only (stands 1 m) (le_at s v 8);
      fraction = only (stands 2 m) (le_at s (fraction_at m v) 8, le_at s (fraction_at m v + 8) 8);
      base = only (stands 3 m) (le_at s (base_at m v) 8);
      mult = only (stands 4 m) (le_at s (mult_at m v) 8);
      script = only (stands 5 m) (text_at s (script_at m v));
      large = stands 6 m;
      active = stands 7 m;
      value_s = only (stands 8 m) (text_at s (value_sAt m s v));
      decimals = only (stands 9 m) (le_at s (decimals_at m s v) 1);
    }

unfoldable pub edge_at : List ℕ → ℕ → Edge
edge_at s at = record {
  start = le_at s (at + 2) 2;
  end = le_at s (at + 4) 2;
  type = text_at s (at + 6);
  txt = text_at s (txt_at s at);
  num = only (stands 0 (map_at s at)) (numeric_at (map_at s at) s (head_end s at));
}

unfoldable pub edges_at : ℕ → List ℕ → ℕ → List Edge
edges_at zero s at = []
edges_at (suc k) s at = edge_at s at ∷ edges_at k s (next_at s at)

abbrev pub listed : List ℕ → List Edge
listed s = edges_at (le_at s 0 2) s 2

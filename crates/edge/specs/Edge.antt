-- Edges as values, and the bytes in which they are listed (01, "Listing"). Definitions only.
--     Text              a string: its UTF-8 bytes
--     Edge, Numeric     an edge, and the numeric data of a numeric one; a field that is absent is none
--     f64_bits v         the bits of the f64 of a whole number v
--     map_of x           the u16 map of an edge: which of its fields are there
--     str t             a string as it is listed: a u16 length and its bytes
--     edge_bytes e       an edge as it is listed
--     listing_bytes es   a listing: a u16 count, and the edges
--     EdgeFits e        the numbers and lengths of an edge fit their bytes
--     Assumes nothing.
use Rattle.std.specs.Prelude.{◌≡◌, ℕ, ◌+◌, ◌*◌, ◌^◌, ◌<◌, Bool, List, [], ◌∷◌, ◌++◌, length}
use Rattle.std.proofs.Math.Option.{Option, none, some}
use Rattle.std.specs.Float.{binary64}
use Rattle.std.specs.Float.Ieee.{to_bits}
use Rattle.whole.specs.Whole.{of_nat}
use Rattle.fields.specs.Fields.{bytes_of}
use Rattle.fields.specs.Flag.{there, flag, bytes_if}

abbrev pub Text : Type 0
Text = List ℕ

pub record Numeric : Type 0 where
  pub orig : Text
  -- the 64 bits of the f64
  pub value : Option ℕ
  -- numerator and denominator
  pub fraction : Option (ℕ × ℕ)
  pub base : Option ℕ
  -- base_multiplier: the 64 bits of the f64
  pub mult : Option ℕ
  pub script : Option Text
  pub large : Bool
  pub active : Bool
  pub value_s : Option Text
  -- 02, S-13: "Bit 9 of the listing's map then stands for a u8 count of decimals, after value_s"
  pub decimals : Option ℕ

pub record Edge : Type 0 where
  pub start : ℕ
  pub end : ℕ
  pub type : Text
  pub txt : Text
  -- none: a regular edge
  pub num : Option Numeric

-- the bits that value and base_multiplier of an edge have for a whole number
unfoldable pub f64_bits : ℕ → ℕ
f64_bits v = to_bits binary64 (of_nat v)

-- ---- the map
unfoldable pub numeric_map : Numeric → ℕ
numeric_map n =
    1 + 2 * there n.value + 4 * there n.fraction + 8 * there n.base + 16 * there n.mult + 32 * there n.script + 64 * flag n.large
    + 128 * flag n.active + 256 * there n.value_s + 512 * there n.decimals

abbrev pub map_of : Option Numeric → ℕ
map_of none = 0
map_of (some n) = numeric_map n

-- ---- the bytes
unfoldable pub str : Text → List ℕ
str t = bytes_of 2 (length t) ++ t

abbrev pub fraction_bytes : ℕ × ℕ → List ℕ
fraction_bytes p = bytes_of 8 p.0 ++ bytes_of 8 p.1

-- what a numeric edge has behind its txt
unfoldable pub numeric_bytes : Numeric → List ℕ
numeric_bytes n =
    str n.orig ++ (bytes_if (bytes_of 8) n.value ++ (bytes_if fraction_bytes n.fraction ++ (bytes_if (bytes_of 8) n.base
    ++ (bytes_if (bytes_of 8) n.mult ++ (bytes_if str n.script ++ (bytes_if str n.value_s ++ bytes_if (bytes_of 1) n.decimals))))))

-- what every edge begins with; its bytes from the start on tell edges apart
unfoldable pub head_bytes : ℕ → ℕ → ℕ → Text → Text → List ℕ
head_bytes m a z ty tx = bytes_of 2 m ++ (bytes_of 2 a ++ (bytes_of 2 z ++ (str ty ++ str tx)))

unfoldable pub edge_bytes : Edge → List ℕ
edge_bytes e = head_bytes (map_of e.num) e.start e.end e.type e.txt ++ bytes_if numeric_bytes e.num

unfoldable pub edges_bytes : List Edge → List ℕ
edges_bytes [] = []
edges_bytes (e ∷ es) = edge_bytes e ++ edges_bytes es

unfoldable pub listing_bytes : List Edge → List ℕ
listing_bytes es = bytes_of 2 (length es) ++ edges_bytes es

-- ---- edges that can be listed: numbers and lengths that their bytes hold
pub record NumericFits (n : Numeric) : Type 0 where
  pub orig : length n.orig < 2 ^ 16
  pub value : (v : ℕ) → n.value ≡ some v → v < 2 ^ 64
  pub fraction : (p : ℕ × ℕ) → n.fraction ≡ some p → (p.0 < 2 ^ 64) × (p.1 < 2 ^ 64)
  pub base : (v : ℕ) → n.base ≡ some v → v < 2 ^ 64
  pub mult : (v : ℕ) → n.mult ≡ some v → v < 2 ^ 64
  pub script : (t : Text) → n.script ≡ some t → length t < 2 ^ 16
  pub value_s : (t : Text) → n.value_s ≡ some t → length t < 2 ^ 16
  pub decimals : (v : ℕ) → n.decimals ≡ some v → v < 2 ^ 8

pub record EdgeFits (e : Edge) : Type 0 where
  pub start : e.start < 2 ^ 16
  pub end : e.end < 2 ^ 16
  pub type : length e.type < 2 ^ 16
  pub txt : length e.txt < 2 ^ 16
  pub num : (n : Numeric) → e.num ≡ some n → NumericFits n

-- The bytes of an edge in the pass list, the numbers little-endian (specs/Layout.antt). Definitions only.
--     bit map of       whether the bit of worth `of` stands in map
--     map_of n          the marks and the decimals of n in one number
--     record_bytes x    the bytes of x
--     stored_of bs        what the bytes bs say
--     stored_at s at      what the bytes of the edge at an offset of s say
--     stored_list_at s i n    n edges of the list s from the i-th on
-- Assumes nothing.
use Rattle.std.specs.Prelude.{Bool, true, false, List, [], ◌∷◌, ◌++◌, ℕ, zero, suc, ◌+◌, ◌*◌, ◌/◌, ◌%◌, eqb}
use Rattle.fields.specs.Fields.{le_at, bytes_of}
use Rattle.fields.specs.Part.{part}
use Rattle.fields.specs.Flag.{flag}
use Rattle.pass_list.specs.declared.record.PassData.{PassData}
use Rattle.pass_list.specs.Layout.{SIZE, end_at, kind_at, map_at, value_at, base_at, mult_at, record_at, script_at, script_len_at}
use Rattle.pass_list.specs.Layout.{value_bit, base_bit, mult_bit, script_bit, large_power_bit, digit_bit, gap_bit, cjk_bit, decimals_bit, point_bit}
use Rattle.pass_list.specs.StoredEdge.{StoredEdge, num_data}
use Rattle.pass_list.specs.Kind.{kind_number, kind_from}

abbrev pub bit : ℕ → ℕ → Bool
bit map of = eqb (map / of % 2) 1

abbrev pub map_of : PassData → ℕ
map_of n =
    value_bit * flag n.has_value + base_bit * flag n.has_base + mult_bit * flag n.has_mult + script_bit * flag n.has_script
    + large_power_bit * flag n.large_power + digit_bit * flag n.digit + gap_bit * flag n.gap + cjk_bit * flag n.cjk
    + decimals_bit * n.decimals + point_bit * flag n.point

unfoldable pub num_bytes : StoredEdge → List ℕ
num_bytes x =
    bytes_of 8 x.value ++ (bytes_of 8 x.base ++ (bytes_of 8 x.mult ++ (bytes_of 8 x.record_offset ++ (bytes_of 8 x.script_offset ++ bytes_of 8 x.script_len))))

unfoldable pub record_bytes : StoredEdge → List ℕ
record_bytes x = bytes_of 2 x.start ++ (bytes_of 2 x.end ++ (bytes_of 2 (kind_number x.kind) ++ (bytes_of 2 (map_of (num_data x)) ++ num_bytes x)))

unfoldable pub stored_of : List ℕ → StoredEdge
stored_of bs = record {
  start = le_at bs 0 2;
  end = le_at bs end_at 2;
  kind = kind_from (le_at bs kind_at 2);
  record_offset = le_at bs record_at 8;
  value = le_at bs value_at 8;
  base = le_at bs base_at 8;
  mult = le_at bs mult_at 8;
  script_offset = le_at bs script_at 8;
  script_len = le_at bs script_len_at 8;
  has_value = bit (le_at bs map_at 2) value_bit;
  has_base = bit (le_at bs map_at 2) base_bit;
  has_mult = bit (le_at bs map_at 2) mult_bit;
  has_script = bit (le_at bs map_at 2) script_bit;
  large_power = bit (le_at bs map_at 2) large_power_bit;
  digit = bit (le_at bs map_at 2) digit_bit;
  gap = bit (le_at bs map_at 2) gap_bit;
  cjk = bit (le_at bs map_at 2) cjk_bit;
  decimals = le_at bs map_at 2 / decimals_bit % 16;
  point = bit (le_at bs map_at 2) point_bit;
}

unfoldable pub stored_at : List ℕ → ℕ → StoredEdge
stored_at s at = stored_of (part s at SIZE)

unfoldable pub stored_list_at : List ℕ → ℕ → ℕ → List StoredEdge
stored_list_at s i zero = []
stored_list_at s i (suc n) = stored_at s (i * SIZE) ∷ stored_list_at s (suc i) n

-- The layout of an edge in the pass list: its size in bytes, where each field stands behind its start (the start place is the first), and the bits of its
-- map: the listing's for the fields, and more for the marks and the decimals. Definitions only. Assumes nothing.
use Rattle.std.specs.Prelude.{ℕ}

abbrev pub SIZE : ℕ
SIZE = 56

-- ---- where the fields stand
abbrev pub end_at : ℕ
end_at = 2

abbrev pub kind_at : ℕ
kind_at = 4

abbrev pub map_at : ℕ
map_at = 6

abbrev pub value_at : ℕ
value_at = 8

abbrev pub base_at : ℕ
base_at = 16

abbrev pub mult_at : ℕ
mult_at = 24

abbrev pub record_at : ℕ
record_at = 32

abbrev pub script_at : ℕ
script_at = 40

abbrev pub script_len_at : ℕ
script_len_at = 48

-- ---- the bits of the map
abbrev pub value_bit : ℕ
value_bit = 2

abbrev pub base_bit : ℕ
base_bit = 8

abbrev pub mult_bit : ℕ
mult_bit = 16

abbrev pub script_bit : ℕ
script_bit = 32

abbrev pub large_power_bit : ℕ
large_power_bit = 64

abbrev pub digit_bit : ℕ
digit_bit = 256

abbrev pub gap_bit : ℕ
gap_bit = 512

abbrev pub cjk_bit : ℕ
cjk_bit = 1024

-- four bits
abbrev pub decimals_bit : ℕ
decimals_bit = 2048

abbrev pub point_bit : ℕ
point_bit = 32768

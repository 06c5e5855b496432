-- What a character counts as where a marker or sign is compared with the line (02, S-3). Definitions only.
--     is_wide c   c is one of the wide characters U+FF01 to U+FF5E
--     fold c     what the character c counts as
--     folded w   the characters w as they count
--     Assumes nothing.
use Rattle.std.specs.Prelude.{ℕ, ◌-◌, Bool, cond, ◌&&◌, List, map, leb}

abbrev pub is_wide : ℕ → Bool
is_wide c = leb 0xFF01 c && leb c 0xFF5E

-- "U+FF01 to U+FF5E count as U+0021 to U+007E"
unfoldable pub fold : ℕ → ℕ
fold c = cond (is_wide c) (c - 0xFEE0) c

abbrev pub folded : List ℕ → List ℕ
folded w = map fold w

-- Numbers in lists of bytes, the lowest byte first (01: "Multi-byte numbers are little-endian"), over the width. Definitions only.
--     u16_limit       one more than the largest u16
--     le bs           the number that the bytes bs say
--     le_at s at w     the number in w bytes of s from the offset at on
--     bytes_of w n     the w bytes of n; what of n is above 2 ^ (8 * w) has no bytes
-- Assumes nothing.
use Rattle.std.specs.Prelude.{List, [], ◌∷◌, ℕ, zero, suc, ◌+◌, ◌*◌, ◌/◌, ◌%◌}
use Rattle.fields.specs.Part.{part}

-- the numbers of a u16 are below it
abbrev pub u16_limit : ℕ
u16_limit = 65536

unfoldable pub le : List ℕ → ℕ
le [] = 0
le (b ∷ bs) = b + 256 * le bs

unfoldable pub le_at : List ℕ → ℕ → ℕ → ℕ
le_at s at w = le (part s at w)

unfoldable pub bytes_of : ℕ → ℕ → List ℕ
bytes_of zero n = []
bytes_of (suc w) n = n % 256 ∷ bytes_of w (n / 256)

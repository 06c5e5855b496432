-- Unicode Standard, table 3-7: well-formed UTF-8 byte sequences. Definitions only.
--     within lo hi x   x is from lo to hi
--     row_of b          the row of the lead byte b: the sequence's length and the second byte's limits; length 0 where there is no row
--     trail x          x is a byte behind the second
--     six c x          the code point's bits so far, c, with the six bits of the byte x behind them (table 3-6)
--     bits s at m n    the bits m of the byte at an offset, with the six bits of each of the n bytes behind it
use Rattle.std.specs.Prelude.{ℕ, zero, suc, ◌+◌, ◌*◌, ◌%◌, Bool, cond, ◌&&◌, List, get_or, leb, eqb}
use Rattle.text.specs.declared.Row.{Row}

abbrev pub within : ℕ → ℕ → ℕ → Bool
within lo hi x = leb lo x && leb x hi

abbrev pub row : ℕ → ℕ → ℕ → Row
row n lo hi = record { 0 = n; 1 = lo; 2 = hi }

unfoldable pub row_of : ℕ → Row
row_of b =
    cond (within 0x00 0x7F b) (row 1 0 0)
    (cond (within 0xC2 0xDF b) (row 2 0x80 0xBF)
    (cond (eqb b 0xE0) (row 3 0xA0 0xBF)
    (cond (within 0xE1 0xEC b) (row 3 0x80 0xBF)
    (cond (eqb b 0xED) (row 3 0x80 0x9F)
    (cond (within 0xEE 0xEF b) (row 3 0x80 0xBF)
    (cond (eqb b 0xF0) (row 4 0x90 0xBF)
    (cond (within 0xF1 0xF3 b) (row 4 0x80 0xBF)
    (cond (eqb b 0xF4) (row 4 0x80 0x8F)
    (row 0 0 0)))))))))

abbrev pub trail : ℕ → Bool
trail = within 0x80 0xBF

abbrev pub six : ℕ → ℕ → ℕ
six c x = c * 64 + x % 64

abbrev pub bits : List ℕ → ℕ → ℕ → ℕ → ℕ
bits s at m zero = m
bits s at m (suc n) = six (bits s at m n) (get_or s (at + suc n) 0)

-- What the code's functions answer on the way: the state of `specs/Numeral.antt` with sums and products that stop counting above TOP. Definitions only.
--     capped n          n, or TOP + 1 where it is more
--     glyph k           the character k by its kind and value
--     three a b c       three bytes as one number; number k: those of the character k; glyph_of n: the character with these bytes
--     ThreeAt s at n    n is the number of the three bytes from the offset at of s on
--     glyph_at s         what stands at the start of the bytes s
--     plain_text s       the bytes s as characters of the plain table; none where they are not those of such characters
--     valued o          the value o
--     value_from a s     the value of a line that is read to the state a and goes on with the bytes s
--     Assumes nothing.
use Rattle.std.specs.Prelude.{ℕ, ◌+◌, ◌*◌, ◌/◌, ◌%◌, ◌<◌, min, ◌≡◌, cond, ◌&&◌, List, [], ◌∷◌, eqb, get_or, Some, None}
use Rattle.std.proofs.Math.Option.{Option, none, some}
use Rattle.whole.specs.Whole.{TOP}
use Rattle.grammar.specs.Plain.{Char, digit, ten, large, digit_value, ten_value, large_value, code_point, sixteen}
use Rattle.numeral.specs.declared.Glyph.{Glyph}
use Rattle.numeral.specs.Numeral.{State, reads, result}
use Rattle.numeral.specs.Field.{behind}
use Rattle.std.specs.Prelude as std

abbrev pub capped : ℕ → ℕ
capped n = min n (TOP + 1)

-- ---- characters
abbrev pub glyph : Char → Glyph
glyph (digit d) = Glyph.Digit (digit_value d)
glyph (ten t) = Glyph.Ten (ten_value t)
glyph (large l) = Glyph.Large (large_value l)

abbrev pub three : ℕ → ℕ → ℕ → ℕ
three a b c = a * 65536 + b * 256 + c

-- the number n of the three bytes from the offset at on
pub record ThreeAt (s : List ℕ) (at n : ℕ) : Type 0 where
  pub number : n ≡ three (get_or s at 0) (get_or s (at + 1) 0) (get_or s (at + 2) 0)
  pub first : get_or s at 0 < 256
  pub second : get_or s (at + 1) 0 < 256
  pub third : get_or s (at + 2) 0 < 256

-- the three bytes of a code point from U+0800 to U+FFFF (Unicode Standard, table 3-6)
abbrev pub first : ℕ → ℕ
first c = 224 + c / 64 / 64

abbrev pub second : ℕ → ℕ
second c = 128 + c / 64 % 64

abbrev pub third : ℕ → ℕ
third c = 128 + c % 64

abbrev pub number : Char → ℕ
number k = three (first (code_point k)) (second (code_point k)) (third (code_point k))

unfoldable pub by_number : List Char → ℕ → Option Char
by_number [] n = none
by_number (k ∷ ks) n = cond (eqb n (number k)) (some k) (by_number ks n)

abbrev pub glyph_if : Option Char → Glyph
glyph_if none = Glyph.Other
glyph_if (some k) = glyph k

abbrev pub glyph_of : ℕ → Glyph
glyph_of n = glyph_if (by_number sixteen n)

-- ---- bytes
unfoldable pub by_bytes : List Char → ℕ → ℕ → ℕ → Option Char
by_bytes [] a b c = none
by_bytes (k ∷ ks) a b c = cond (eqb a (first (code_point k)) && eqb b (second (code_point k)) && eqb c (third (code_point k))) (some k) (by_bytes ks a b c)

abbrev pub glyph_at : List ℕ → Glyph
glyph_at [] = Glyph.End
glyph_at (a ∷ []) = Glyph.Other
glyph_at (a ∷ b ∷ []) = Glyph.Other
glyph_at (a ∷ b ∷ c ∷ s) = glyph_if (by_bytes sixteen a b c)

abbrev pub onto : Option Char → Option (List Char) → Option (List Char)
onto none o = none
onto (some k) o = behind k o

unfoldable pub plain_text : List ℕ → Option (List Char)
plain_text [] = some []
plain_text (a ∷ []) = none
plain_text (a ∷ b ∷ []) = none
plain_text (a ∷ b ∷ c ∷ s) = onto (by_bytes sixteen a b c) (plain_text s)

-- ---- values
abbrev pub valued : Option ℕ → std.Option ℕ
valued none = None
valued (some v) = Some v

abbrev pub value_on : State → Option (List Char) → std.Option ℕ
value_on a none = None
value_on a (some w) = valued (result capped (reads capped a w))

unfoldable pub value_from : State → List ℕ → std.Option ℕ
value_from a s = value_on a (plain_text s)

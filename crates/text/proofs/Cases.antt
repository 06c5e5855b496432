-- Marked texts, by computation: characters of each length, what table 3-7 rules out, and both sides of the limits of refusals 2 and 3.
use mathlib.Core.Path.{◌≡◌, refl}
use mathlib.Core.List.{[], ◌∷◌, ◌++◌}
use Prim.Native.Nat.{ℕ}
use lib.ListN.{replicate}
use Rattle.text.specs.Table.{row_of}
use Rattle.text.specs.Sequence.{trailing, by_size, seq, encode}
use Rattle.text.specs.Text.{decode, chars, left, encodes}
use Rattle.text.specs.Line.{line_check}
use Rattle.std.specs.Prelude.{Result, Ok, Err}
use Rattle.text.specs.declared.LineRefusal.{LineRefusal}

abbrev ill : ℕ → Result ℕ LineRefusal
ill at = Err (LineRefusal.IllFormed (record { 0 = at }))

abbrev long : ℕ → Result ℕ LineRefusal
long at = Err (LineRefusal.TooLong (record { 0 = at }))

-- A, é, 一 and U+1F600
pub read : chars (0x41 ∷ 0xC3 ∷ 0xA9 ∷ 0xE4 ∷ 0xB8 ∷ 0x80 ∷ 0xF0 ∷ 0x9F ∷ 0x98 ∷ 0x80 ∷ []) ≡ 0x41 ∷ 0xE9 ∷ 0x4E00 ∷ 0x1F600 ∷ []
unfolding chars decode seq by_size trailing row_of
read = refl

pub ruled_out : (line_check (0xC0 ∷ 0x80 ∷ []) ≡ ill 0) × (line_check (0x41 ∷ 0xE0 ∷ 0x9F ∷ 0xBF ∷ []) ≡ ill 1)
    × (line_check (0xED ∷ 0xA0 ∷ 0x80 ∷ []) ≡ ill 0) × (line_check (0xF4 ∷ 0x90 ∷ 0x80 ∷ 0x80 ∷ []) ≡ ill 0) × (line_check (0xE4 ∷ 0xB8 ∷ 0x41 ∷ []) ≡ ill 0)
    × (line_check (0x41 ∷ 0xE4 ∷ 0xB8 ∷ []) ≡ ill 1) × (line_check (0x80 ∷ []) ≡ ill 0)
unfolding chars left decode seq by_size trailing row_of encodes encode
ruled_out = (refl, refl, refl, refl, refl, refl, refl)

pub limits : (line_check [] ≡ Ok 0) × (line_check (encodes (replicate 256 0xE9)) ≡ Ok 256) × (line_check (encodes (replicate 257 0xE9)) ≡ long 512)
    × (line_check (replicate 300 0x78 ++ (0xFF ∷ [])) ≡ ill 300)
unfolding chars left decode seq by_size trailing row_of encodes encode
limits = (refl, refl, refl, refl)

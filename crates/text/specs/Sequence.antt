-- One UTF-8 sequence (table 3-7), and the bytes of a code point (table 3-6). Definitions only.
--     seq s         what stands at the start of s: a character with its length, an ill-formed sequence, or the end
--     trailing n lo hi c l s   behind l bytes with the bits c: n bytes more, the first of them from lo to hi
--     by_size n lo hi b s       a sequence of n bytes, its lead byte b, the second from lo to hi
--     HasLength s at l         a character of l bytes stands in s at the offset at
--     scalar c      c is a scalar value: a code point that is no surrogate
--     encode c      the bytes of the scalar value c
use Rattle.std.specs.Prelude.{ℕ, zero, suc, ◌+◌, ◌/◌, ◌%◌, Bool, cond, ◌||◌, List, [], ◌∷◌, ◌≡◌, ltb, eqb, drop}
use Rattle.text.specs.declared.Seq.{Seq}
use Rattle.text.specs.declared.Seq.TheVariants.{Char, Ill, End}
use Rattle.text.specs.Table.{row_of, within, six}

unfoldable pub trailing : ℕ → ℕ → ℕ → ℕ → ℕ → List ℕ → Seq
trailing zero lo hi c l s = Char c l
trailing (suc n) lo hi c l [] = Ill
trailing (suc n) lo hi c l (x ∷ s) = cond (within lo hi x) (trailing n 0x80 0xBF (six c x) (l + 1) s) Ill

-- a lead byte of 2, 3 or 4 bytes holds 5, 4 or 3 bits of the code point
unfoldable pub by_size : ℕ → ℕ → ℕ → ℕ → List ℕ → Seq
unfolding trailing
by_size n lo hi b s =
    cond (eqb n 1) (Char b 1)
    (cond (eqb n 2) (trailing 1 lo hi (b % 32) 1 s)
    (cond (eqb n 3) (trailing 2 lo hi (b % 16) 1 s)
    (cond (eqb n 4) (trailing 3 lo hi (b % 8) 1 s)
    Ill)))

unfoldable pub seq : List ℕ → Seq
unfolding by_size row_of
seq [] = End
seq (b ∷ s) = by_size (row_of b).0 (row_of b).1 (row_of b).2 b s

abbrev pub HasLength : List ℕ → ℕ → ℕ → Type 0
HasLength s at l = (c : ℕ) × (seq (drop at s) ≡ Char c l)

abbrev pub scalar : ℕ → Bool
scalar c = within 0 0xD7FF c || within 0xE000 0x10FFFF c

-- the byte that holds the last six bits of c
abbrev pub trail_byte : ℕ → ℕ
trail_byte c = 0x80 + c % 64

unfoldable pub encode : ℕ → List ℕ
encode c =
    cond (ltb c 0x80) (c ∷ [])
    (cond (ltb c 0x800) ((0xC0 + c / 64) ∷ trail_byte c ∷ [])
    (cond (ltb c 0x10000) ((0xE0 + c / 64 / 64) ∷ trail_byte (c / 64) ∷ trail_byte c ∷ [])
    ((0xF0 + c / 64 / 64 / 64) ∷ trail_byte (c / 64 / 64) ∷ trail_byte (c / 64) ∷ trail_byte c ∷ [])))

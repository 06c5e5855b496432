-- A text as characters: its code points, and what is left from its first ill-formed sequence on. Definitions only.
--     Text               chars, the code points up to the first ill-formed sequence; left, the bytes from there on
--     decode k s         the text s, whose first k bytes belong to the character before it
--     chars s, left s    the code points; what is left: nothing where s is well-formed
--     well_formed s       s is well-formed UTF-8
--     encodes cs         the bytes of the characters cs
--     Scalars cs         each of cs is a scalar value
--     offset_of s p       the offset of place p: how many bytes the characters before it have; behind the last one where there is none at p
--     ill_at s            the offset of the first ill-formed sequence; the length where s is well-formed
--     part_of s a b       the bytes from place a to place b
use Rattle.std.specs.Prelude.{ℕ, zero, suc, ◌-◌, ◌≡◌, Bool, true, false, List, [], ◌∷◌, ◌++◌, length, take, drop}
use Rattle.text.specs.declared.Seq.{Seq}
use Rattle.text.specs.declared.Seq.TheVariants.{Char, Ill, End}
use Rattle.text.specs.Sequence.{seq, scalar, encode}

pub record Text : Type 0 where
  pub chars : List ℕ
  pub left : List ℕ

-- the text s, by what stands at its start; then says what the text behind a character of l bytes is
abbrev pub from : List ℕ → Seq → (ℕ → Text) → Text
from s (Char c l) then = record { chars = c ∷ (then l).chars; left = (then l).left }
from s Ill then = record { chars = []; left = s }
from s End then = record { chars = []; left = [] }

unfoldable pub decode : ℕ → List ℕ → Text
decode k [] = record { chars = []; left = [] }
decode (suc k) (b ∷ s) = decode k s
decode zero (b ∷ s) = from (b ∷ s) (seq (b ∷ s)) (λ l. decode (l - 1) s)

unfoldable pub chars : List ℕ → List ℕ
chars s = (decode 0 s).chars

unfoldable pub left : List ℕ → List ℕ
left s = (decode 0 s).left

abbrev pub is_nil : List ℕ → Bool
is_nil [] = true
is_nil (x ∷ xs) = false

abbrev pub well_formed : List ℕ → Bool
well_formed s = is_nil (left s)

unfoldable pub encodes : List ℕ → List ℕ
encodes [] = []
encodes (c ∷ cs) = encode c ++ encodes cs

-- each is a scalar value
abbrev pub Scalars : List ℕ → Type 0
Scalars [] = Unit {0}
Scalars (c ∷ cs) = (scalar c ≡ true) × Scalars cs

abbrev pub offset_of : List ℕ → ℕ → ℕ
offset_of s p = length (encodes (take p (chars s)))

abbrev pub ill_at : List ℕ → ℕ
ill_at s = length s - length (left s)

abbrev pub part_of : List ℕ → ℕ → ℕ → List ℕ
part_of s a b = encodes (take (b - a) (drop a (chars s)))

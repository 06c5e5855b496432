-- The sixteen characters in UTF-8 (`utf8` of `specs/Plain.antt`): three bytes each, one after the other.
use Prim.Native.Nat.{ℕ, ◌+◌, ◌*◌, ◌/◌, ◌%◌}
use mathlib.Core.Path.{◌≡◌, refl, ap}
use mathlib.Core.List.{List, [], ◌∷◌, ◌++◌, map, map-append}
use native.Mathlib.Omega.{arith}
use lib.ListN.{length, length-append}
use Rattle.text.specs.Sequence.{encode}
use Rattle.text.specs.Text.{encodes}
use Rattle.text.proofs.TextLaws.{encodes_append}
use Rattle.grammar.specs.Plain.{Char, code_point, utf8}
use Rattle.grammar.proofs.Sixteen.{each}

pub utf8_nil : utf8 [] ≡ []
unfolding utf8 encodes
utf8_nil = refl

pub utf8_append : (x y : List Char) → utf8 (x ++ y) ≡ utf8 x ++ utf8 y
unfolding utf8
utf8_append x y = rw (map-append code_point x y) (encodes_append (map code_point x) (map code_point y))

-- a code point in three bytes
abbrev pub three : ℕ → List ℕ
three c = (224 + c / 64 / 64) ∷ (128 + c / 64 % 64) ∷ (128 + c % 64) ∷ []

pub char_three : (x : Char) → utf8 (x ∷ []) ≡ three (code_point x)
unfolding utf8 encodes encode
char_three = each (λ x. utf8 (x ∷ []) ≡ three (code_point x)) (refl, refl, refl, refl, refl, refl, refl, refl, refl, refl, refl, refl, refl, refl, refl, refl)

pub utf8_length : (w : List Char) → length (utf8 w) ≡ 3 * length w
utf8_length [] = rw utf8_nil
utf8_length (c ∷ w) =
    omega (arith, ap length (utf8_append (c ∷ []) w), length-append (utf8 (c ∷ [])) (utf8 w), ap length (char_three c), utf8_length w)

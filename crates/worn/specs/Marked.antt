-- What the code's functions answer on the way to the one □ of a line. Definitions only.
--     is_plain s       whether a character of the plain table stands at the start of the bytes s
--     mark_bytes       □ in UTF-8; is_mark s: whether it stands at the start of s
--     worn_text x y    the line with □ between the characters x and y
--     PlainTo s a r   from the offset a to r there are characters of the plain table alone, and at r there is none
--     MarkIs s m      m says where the one □ of the line s stands
--     Assumes nothing.
use Rattle.std.specs.Prelude.{ℕ, ◌*◌, ◌≤◌, ◌≡◌, Bool, true, false, List, [], ◌∷◌, ◌++◌, eqb, length, drop, Option, Some, None}
use Rattle.std.specs.List.{starts_with}
use Rattle.grammar.specs.Plain.{Char, utf8}
use Rattle.numeral.specs.declared.Glyph.{Glyph}
use Rattle.numeral.specs.declared.Glyph.TheVariants.{Digit, Ten, Large, Other, End}
use Rattle.numeral.specs.Walk.{glyph_at}

abbrev pub plain_glyph : Glyph → Bool
plain_glyph (Digit v) = true
plain_glyph (Ten v) = true
plain_glyph (Large v) = true
plain_glyph Other = false
plain_glyph End = false

unfoldable pub is_plain : List ℕ → Bool
is_plain s = plain_glyph (glyph_at s)

abbrev pub mark_bytes : List ℕ
mark_bytes = 0xE2 ∷ 0x96 ∷ 0xA1 ∷ []

unfoldable pub is_mark : List ℕ → Bool
is_mark s = starts_with eqb s mark_bytes

abbrev pub worn_text : List Char → List Char → List ℕ
worn_text x y = utf8 x ++ (mark_bytes ++ utf8 y)

pub record PlainTo (s : List ℕ) (from end : ℕ) : Type 0 where
  pub chars : List Char
  pub stand : drop from s ≡ utf8 chars ++ drop end s
  pub inside : end ≤ length s
  pub ends : is_plain (drop end s) ≡ false

-- the line s has □ at the offset at, between the characters x and y
pub record WornAt (s : List ℕ) (at : ℕ) : Type 0 where
  pub x : List Char
  pub y : List Char
  pub text : s ≡ worn_text x y
  pub place : at ≡ 3 * length x

abbrev pub MarkIs : List ℕ → Option ℕ → Type 0
MarkIs s (Some at) = WornAt s at
MarkIs s None = (x y : List Char) → s ≡ worn_text x y → ⊥

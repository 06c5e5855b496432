-- The weights of a numeral by one way over its line from the right, as the code finds them (`proofs/WalkLaws.antt`: they are `weights`). Definitions only.
--     is_weighed g       what stands there is one of 一 to 九
--     before u g        the units one character on, where that is g
--     back w u          the units before the characters w, where those behind w are u
--     found w u         the weights of the 一 to 九 of w, in line order
--     start n           the units behind a line whose last place weighs n
--     last_unit w        what the last place of the line w weighs: base/10 for the lone digit after a block, else 1
-- Products go through `cap`: as they are, or, as in the code, counted up to TOP + 1.
-- Assumes nothing.
use Rattle.std.specs.Prelude.{ℕ, ◌*◌, ◌/◌, Bool, false, cond, List, [], ◌∷◌, leb}
use Rattle.grammar.specs.Plain.{Char}
use Rattle.numeral.specs.declared.Glyph.{Glyph}
use Rattle.numeral.specs.Walk.{glyph}
use Rattle.weights.specs.declared.units.Units.{Units}

abbrev pub is_weighed : Glyph → Bool
is_weighed (Glyph.Digit v) = leb 1 v
is_weighed (Glyph.Ten v) = false
is_weighed (Glyph.Large v) = false
is_weighed Glyph.Other = false
is_weighed Glyph.End = false

module _ (cap : ℕ → ℕ) where
  -- a digit weighs ten times the next one of its run; before 十, 百 or 千 that many times what the member's last place does; before 万, 億 or 兆 that many
  abbrev pub before : Units → Glyph → Units
  before u (Glyph.Digit v) = record { digit = cap (10 * u.digit); member = u.member }
  before u (Glyph.Ten v) = record { digit = cap (v * u.member); member = u.member }
  before u (Glyph.Large v) = record { digit = v; member = v }
  before u Glyph.Other = u
  before u Glyph.End = u

  abbrev pub back : List Char → Units → Units
  back [] u = u
  back (c ∷ w) u = before (back w u) (glyph c)

  abbrev pub found : List Char → Units → List ℕ
  found [] u = []
  found (c ∷ w) u = cond (is_weighed (glyph c)) ((back w u).digit ∷ found w u) (found w u)

abbrev pub start : ℕ → Units
start n = record { digit = n; member = 1 }

-- "The lone digit after a block has weight base/10": what it weighs behind the character a
abbrev pub after_large : Glyph → ℕ
after_large (Glyph.Large v) = v / 10
after_large (Glyph.Digit v) = 1
after_large (Glyph.Ten v) = 1
after_large Glyph.Other = 1
after_large Glyph.End = 1

-- a is the last character but one, b the last
abbrev pub unit_of_two : Glyph → Glyph → ℕ
unit_of_two a b = cond (is_weighed b) (after_large a) 1

abbrev pub last_unit : List Char → ℕ
last_unit [] = 1
last_unit (a ∷ []) = 1
last_unit (a ∷ b ∷ []) = unit_of_two (glyph a) (glyph b)
last_unit (a ∷ b ∷ c ∷ w) = last_unit (b ∷ c ∷ w)

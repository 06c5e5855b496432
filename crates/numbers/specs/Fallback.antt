-- The fallback for ASCII digits (01, "The rest of the call"). Definitions only.
--     covered es p      a numeric edge of es has the one-place span from p
--     fallback es p w   the edges of the ASCII digits among the characters w, the first of them at place p, that have no numeric edge on their place
--     Assumes nothing.
use Rattle.std.specs.Prelude.{ℕ, suc, Bool, false, cond, ◌&&◌, ◌||◌, not, List, [], ◌∷◌, eqb, leb}
use Rattle.edge.specs.Edge.{Text, Edge}
use Rattle.edge.specs.Write.{regular}
use Rattle.numbers.specs.Fractions.{is_numeric}

unfoldable pub covered : List Edge → ℕ → Bool
covered [] p = false
covered (e ∷ es) p = (is_numeric e && (eqb e.start p && eqb e.end (suc p))) || covered es p

-- the type "num"
abbrev pub num_type : Text
num_type = 110 ∷ 117 ∷ 109 ∷ []

abbrev pub ascii_digit : ℕ → Bool
ascii_digit c = leb 48 c && leb c 57

-- "an ASCII digit without a numeric edge on its place adds a regular edge there, type "num", txt that digit, in line order"
unfoldable pub fallback : List Edge → ℕ → List ℕ → List Edge
fallback es p [] = []
fallback es p (c ∷ w) =
    cond (ascii_digit c && not (covered es p)) (regular p (suc p) num_type (c ∷ []) ∷ fallback es (suc p) w) (fallback es (suc p) w)

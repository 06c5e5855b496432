-- The fallback by marks: one for each place that a numeric edge of one place covers (`marks`). Definitions only.
--     digit_edge c p m       the edge of the character c at place p, as a list: none if it is no ASCII digit or its place has a mark (m)
--     unmarked marks p w    the edges of the characters w, the first of them at place p, by marks
--     any_digit s            one of the bytes s is that of an ASCII digit
--     Assumes nothing.
use Rattle.std.specs.Prelude.{ℕ, suc, Bool, false, cond, ◌&&◌, ◌||◌, not, List, [], ◌∷◌, ◌++◌, get_or}
use Rattle.edge.specs.Edge.{Edge}
use Rattle.edge.specs.Write.{regular}
use Rattle.numbers.specs.Fallback.{num_type, ascii_digit}

unfoldable pub digit_edge : ℕ → ℕ → Bool → List Edge
digit_edge c p marked = cond (ascii_digit c && not marked) (regular p (suc p) num_type (c ∷ []) ∷ []) []

unfoldable pub unmarked : List Bool → ℕ → List ℕ → List Edge
unmarked marks p [] = []
unmarked marks p (c ∷ w) = digit_edge c p (get_or marks p false) ++ unmarked marks (suc p) w

unfoldable pub any_digit : List ℕ → Bool
any_digit [] = false
any_digit (b ∷ s) = ascii_digit b || any_digit s

-- G6: signs directly before a number (01, "The rest of the call"). Definitions only.
--     sign_edge a c e      the edge for a sign that stands at place a before the passes' edge e; c is the sign's ASCII byte, - or +
--     signed w c e ss     the edges that the signs ss give before the edge e
--     signs t w es        G6's edges for the list es after G4: minus then plus signs for each valued edge, in the table's order
--     Assumes nothing.
use Rattle.std.specs.Prelude.{ℕ, ◌-◌, Bool, cond, ◌&&◌, List, [], ◌∷◌, ◌++◌, length, leb}
use Rattle.text.specs.Text.{chars}
use Rattle.table.specs.Table.{Text, Table}
use Rattle.passes.specs.NumEdge.{NumEdge, has}
use Rattle.edge.specs.Edge.{Edge}
use Rattle.edge.specs.Write.{regular}
use Rattle.numbers.specs.Fractions.{stands_at}

-- the sign m stands directly before place p, wholly before it
abbrev pub ends_at : List ℕ → ℕ → Text → Bool
ends_at w p m = leb (length (chars m)) p && stands_at w (p - length (chars m)) m

-- "txt sign (- or +) and txt, type followed by a space and that sign"
abbrev pub sign_edge : ℕ → ℕ → NumEdge → Edge
sign_edge a c e = regular a e.end (e.type ++ (32 ∷ c ∷ [])) (c ∷ e.txt)

unfoldable pub signed : List ℕ → ℕ → NumEdge → List Text → List Edge
signed w c e [] = []
signed w c e (m ∷ ms) = cond (ends_at w e.start m) (sign_edge (e.start - length (chars m)) c e ∷ signed w c e ms) (signed w c e ms)

-- "each minus then plus sign"
unfoldable pub signs : Table → List ℕ → List NumEdge → List Edge
signs t w [] = []
signs t w (e ∷ es) = cond (has e.value) (signed w 45 e t.minus_signs ++ signed w 43 e t.plus_signs) [] ++ signs t w es

-- Percentages, fractions, G6 and the call by any comparison of a marker or sign with the line (02, S-3: "Percentages, fractions and G6 all read through that comparison
-- and their definitions change with it"). Each is the definition of `numbers` with the comparison st in the stead of `stands_at`. Definitions only.
--     Comparison            whether a marker or sign stands in the line's characters at a place
--     stands_exactly         the comparison before S-3: the characters themselves
--     longest_by, marker_by, outcomes_by, fractions_by   as in `Fractions`
--     signed_by, signs_by                              as in `Signs`
--     lattice_with st t w given                       the finished lattice
--     answer_with st ..                               the answer of the whole call: its checks are those of the call
--     Assumes nothing.
use Rattle.std.specs.Prelude.{ℕ, zero, suc, ◌-◌, Bool, cond, ◌&&◌, List, [], ◌∷◌, ◌++◌, length, take, drop, leb}
use Rattle.text.specs.Bytes.{same}
use Rattle.text.specs.Text.{chars}
use Rattle.table.specs.Table.{Text, Table}
use Rattle.passes.specs.NumEdge.{NumEdge, has}
use Rattle.passes.specs.Passes.{fifth_list, above_at}
use Rattle.edge.specs.Edge.{Edge}
use Rattle.lattice.specs.Lattice.{add_all, turn_off}
use Rattle.numbers.specs.Fractions.{larger, longer, Marker, Outcome, by_marker, new_edges, used_edges}
use Rattle.numbers.specs.Signs.{sign_edge}
use Rattle.numbers.specs.Separators.{separate}
use Rattle.numbers.specs.Fallback.{fallback}
use Rattle.numbers.specs.Call.{Answer, Stages, finished, unless_above, after_passes, answer_by}

abbrev pub Comparison : Type 0
Comparison = List ℕ → ℕ → Text → Bool

unfoldable pub stands_exactly : Comparison
stands_exactly w p m = same (take (length (chars m)) (drop p w)) (chars m)

-- ---- markers
-- "The longest marker is the one of most characters"
unfoldable pub longest_by : Comparison → List ℕ → ℕ → List Text → ℕ
longest_by st w p [] = 0
longest_by st w p (m ∷ ms) = larger (cond (st w p m) (length (chars m)) 0) (longest_by st w p ms)

unfoldable pub marker_by : Comparison → Table → List ℕ → ℕ → Marker
marker_by st t w p = longer (longest_by st w p t.percentage_markers) (longest_by st w p t.fraction_connectors)

unfoldable pub outcomes_by : Comparison → Table → List ℕ → List Edge → ℕ → ℕ → List Outcome
outcomes_by st t w es p zero = []
outcomes_by st t w es p (suc k) = by_marker es p (marker_by st t w p) ∷ outcomes_by st t w es (suc p) k

unfoldable pub fractions_by : Comparison → Table → List ℕ → List Edge → List Edge
fractions_by st t w es =
    let ms = outcomes_by st t w es 0 (length w) in
    add_all (turn_off es (used_edges ms)) (new_edges ms)

-- ---- signs
abbrev pub ends_at_by : Comparison → List ℕ → ℕ → Text → Bool
ends_at_by st w p m = leb (length (chars m)) p && st w (p - length (chars m)) m

unfoldable pub signed_by : Comparison → List ℕ → ℕ → NumEdge → List Text → List Edge
signed_by st w c e [] = []
signed_by st w c e (m ∷ ms) = cond (ends_at_by st w e.start m) (sign_edge (e.start - length (chars m)) c e ∷ signed_by st w c e ms) (signed_by st w c e ms)

unfoldable pub signs_by : Comparison → Table → List ℕ → List NumEdge → List Edge
signs_by st t w [] = []
signs_by st t w (e ∷ es) = cond (has e.value) (signed_by st w 45 e t.minus_signs ++ signed_by st w 43 e t.plus_signs) [] ++ signs_by st t w es

-- ---- the call
unfoldable pub after_signs_with : Comparison → Table → List ℕ → List Edge → List Edge
after_signs_with st t w given = add_all (fractions_by st t w (after_passes t w given)) (signs_by st t w (fifth_list t w))

unfoldable pub lattice_with : Comparison → Table → List ℕ → List Edge → List Edge
lattice_with st t w given = let es = separate (after_signs_with st t w given) in add_all es (fallback es 0 w)

unfoldable pub checked_with : Comparison → Stages
checked_with st t w out given = unless_above (above_at t w) (finished out (lattice_with st t w given))

abbrev pub answer_with : Comparison → List ℕ → List ℕ → List ℕ → ℕ → ℕ → Answer
answer_with st = answer_by (checked_with st)

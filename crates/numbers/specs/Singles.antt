-- Singles that may not stand (02, S-12): the stage that the second call has between F1 and the fallback. Definitions only.
--     barred e                 e is one place long, and one of 兩参參伍陆陸什 or above 1000
--     barred_of l               those edges of the list l, as they are listed
--     silenced t w es          those of G4's list, and the copies F1 made of them; es is the lattice before F1
--     silence ds e             the edge e, inactive if it is one of ds
--     without_singles t w es    the lattice es after F1 and this stage
--     Assumes nothing.
use Rattle.std.specs.Prelude.{ℕ, Bool, false, cond, ◌&&◌, ◌||◌, List, [], ◌∷◌, ◌++◌, map, ltb}
use Rattle.text.specs.Bytes.{same}
use Rattle.text.specs.Sequence.{encode}
use Rattle.table.specs.Table.{Text, Table}
use Rattle.passes.specs.NumEdge.{NumEdge, or_zero}
use Rattle.passes.specs.Passes.{fifth_list, one_place}
use Rattle.edge.specs.Edge.{Edge}
use Rattle.lattice.specs.Lattice.{has, inactive}
use Rattle.numbers.specs.Listed.{listed_edge}
use Rattle.numbers.specs.Separators.{copies, separate}

-- 兩参參伍陆陸什. "京兆 never applies, being two characters"
abbrev pub barred_characters : List ℕ
barred_characters = 0x5169 ∷ 0x53C2 ∷ 0x53C3 ∷ 0x4F0D ∷ 0x9646 ∷ 0x9678 ∷ 0x4EC0 ∷ []

-- the text x is one of the characters
unfoldable pub one_of : List ℕ → Text → Bool
one_of [] x = false
one_of (c ∷ cs) x = same x (encode c) || one_of cs x

-- "兩参參伍陆陸什 standing alone, and one-place numbers above 1000": the characters whatever their value, also without one
unfoldable pub barred : NumEdge → Bool
barred e = one_place e && (one_of barred_characters e.orig_txt || ltb 1000 (or_zero e.value))

unfoldable pub barred_of : List NumEdge → List Edge
barred_of [] = []
barred_of (e ∷ es) = cond (barred e) (listed_edge e ∷ barred_of es) (barred_of es)

-- "edges of G4's list that are one place long and meet either condition, and the copies F1 made of them"
unfoldable pub silenced : Table → List ℕ → List Edge → List Edge
silenced t w es = let ds = barred_of (fifth_list t w) in ds ++ copies es ds

-- "turn inactive in the lattice"; "One in whose stead the lattice kept a given edge changes nothing there": that one is regular, and stays as it is
abbrev pub silence : List Edge → Edge → Edge
silence ds e = cond (has ds e) (inactive e) e

-- "after F1"
unfoldable pub without_singles : Table → List ℕ → List Edge → List Edge
without_singles t w es = map (silence (silenced t w es)) (separate es)

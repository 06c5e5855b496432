-- The stage by places, as the code does it (02, S-12): a mark for each place of an edge of G4's list that may not stand, and one walk over the lattice.
-- `proofs/ByPlace.antt` shows that it is the definition's stage. Definitions only.
--     barred_at l p            an edge of the list l that may not stand is at place p
--     quiet_at l e             the edge e, inactive if it is one place long, at such a place
--     barred_by marks e        e is one place long, and its place has a mark
--     silence_at marks es i    es with its i-th edge inactive, if it is barred by the marks
--     silenced_by marks es     es with each of them inactive that is
--     MayNotStand t w es e    e is one of "those edges" of the lattice es before F1, for the line w (code points) with table t
--     Assumes nothing.
use Rattle.std.specs.Prelude.{ℕ, suc, ◌≡◌, ◌⊎◌, Bool, true, false, cond, ◌&&◌, eqb, get_or}
use mathlib.Core.List.{List, map, Memᴰ}
use Rattle.table.specs.Table.{Table}
use Rattle.passes.specs.NumEdge.{NumEdge}
use Rattle.passes.specs.Passes.{fifth_list}
use Rattle.edge.specs.Edge.{Edge}
use Rattle.lattice.specs.Lattice.{same_key, inactive, turn_off_at}
use Rattle.lattice.specs.Kept.{no_edge}
use Rattle.numbers.specs.Listed.{listed_edge}
use Rattle.numbers.specs.Marks.{any_at}
use Rattle.numbers.specs.Separators.{apart, copy_of}
use Rattle.numbers.specs.Singles.{barred}

abbrev pub start_of : NumEdge → ℕ
start_of x = x.start

abbrev pub barred_at : List NumEdge → ℕ → Bool
barred_at l p = any_at barred start_of l p

-- a regular edge stays as it is
abbrev pub quiet_at : List NumEdge → Edge → Edge
quiet_at l e = cond (eqb e.end (suc e.start) && barred_at l e.start) (inactive e) e

unfoldable pub barred_by : List Bool → Edge → Bool
barred_by marks e = eqb e.end (suc e.start) && get_or marks e.start false

unfoldable pub silence_at : List Bool → List Edge → ℕ → List Edge
silence_at marks es i = cond (barred_by marks (get_or es i no_edge)) (turn_off_at es i) es

abbrev pub silenced_by : List Bool → List Edge → List Edge
silenced_by marks es = map (λ (e : Edge). cond (barred_by marks e) (inactive e) e) es

-- "edges of G4's list that are one place long and meet either condition, and the copies F1 made of them": e is such an edge; es is the lattice before F1
pub record MayNotStand (t : Table) (w : List ℕ) (es : List Edge) (e : Edge) : Type 0 where
  pub single : NumEdge
  pub in_list : Memᴰ single (fifth_list t w)
  pub is_barred : barred single ≡ true
  pub is : (same_key (listed_edge single) e ≡ true) ⊎ ((apart es (listed_edge single) ≡ true) × (same_key (copy_of (listed_edge single)) e ≡ true))

-- 02, S-12: which edges those are, both ways. `those_are` says it by G4's list and F1; `second_by_place` by places alone: the edges of the first listing that
-- are numeric, one place long and at the place of an edge of G4's list that may not stand. So the code needs a mark for each place and one walk over the lattice.
-- `silenced`, `without_singles` are numbers/specs/Singles.antt's, `MayNotStand`, `quiet_at` specs/ByPlace.antt's; `Given` (proofs/SinglePlaces.antt) is a given edge that the check accepts.
use Prim.Native.Nat.{ℕ}
use mathlib.Core.Path.{◌≡◌, ◌∙◌}
use mathlib.Core.Bool.{true}
use mathlib.Core.List.{List, map}
use Rattle.table.specs.Table.{Table}
use Rattle.passes.specs.Passes.{fifth_list}
use Rattle.edge.specs.Edge.{Edge}
use Rattle.lattice.specs.Lattice.{has}
use Rattle.pass_list.specs.StoredEdge.{Every}
use Rattle.numbers.specs.Separators.{separate}
use Rattle.numbers.specs.Call.{after_signs, lattice_by, lattice_of}
use Rattle.numbers.specs.Singles.{silenced, without_singles}
use Rattle.singles.specs.ByPlace.{MayNotStand, quiet_at}
use Rattle.singles.proofs.SinglePlaces.{Given, separated_late, lattice_late}
use Rattle.singles.proofs.SecondLattice.{second_lattice}
use Rattle.singles.proofs.PlaceLaws.{silenced_are, each_by_place}

pub those_are : (t : Table) (w : List ℕ) (es : List Edge) (e : Edge) → (has (silenced t w es) e ≡ true → MayNotStand t w es e) × (MayNotStand t w es e → has (silenced t w es) e ≡ true)
those_are = silenced_are

-- the stage where 02 has it, after F1 and before the fallback
pub stage_by_place : (t : Table) (w : List ℕ) (given : List Edge) → Every Given given
    → without_singles t w (after_signs t w given) ≡ map (quiet_at (fifth_list t w)) (separate (after_signs t w given))
unfolding without_singles
stage_by_place t w given g = each_by_place t w (after_signs t w given) (separated_late t w given g)

-- and as the last of all, on the first call's lattice
pub second_by_place : (t : Table) (w : List ℕ) (given : List Edge) → Every Given given → lattice_by true t w given ≡ map (quiet_at (fifth_list t w)) (lattice_of t w given)
second_by_place t w given g = second_lattice t w given ∙ each_by_place t w (after_signs t w given) (lattice_late t w given g)

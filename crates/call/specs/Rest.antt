-- The stages after the five passes, in turn: lattice_by of numbers/specs/Call.antt from the lattice after the passes on. Definitions only.
--     with_signs t w fs es   the lattice es with fractions, percentages and signs; fs is the list after G4
--     apart_by b fs es       F1, and where b is true singles that may not stand turned inactive: `singles` shows that this is the definition's stage
--     rest_of b t w fs es    the finished lattice
--     Assumes nothing.
use Rattle.std.specs.Prelude.{ℕ, Bool, cond, List, map}
use Rattle.table.specs.Table.{Table}
use Rattle.passes.specs.NumEdge.{NumEdge}
use Rattle.edge.specs.Edge.{Edge}
use Rattle.lattice.specs.Lattice.{add_all}
use Rattle.numbers.specs.Fractions.{fractions}
use Rattle.numbers.specs.Signs.{signs}
use Rattle.numbers.specs.Separators.{separate}
use Rattle.numbers.specs.Fallback.{fallback}
use Rattle.singles.specs.ByPlace.{quiet_at}

abbrev pub with_signs : Table → List ℕ → List NumEdge → List Edge → List Edge
with_signs t w fs es = add_all (fractions t w es) (signs t w fs)

abbrev pub apart_by : Bool → List NumEdge → List Edge → List Edge
apart_by b fs es = cond b (map (quiet_at fs) (separate es)) (separate es)

unfoldable pub rest_of : Bool → Table → List ℕ → List NumEdge → List Edge → List Edge
rest_of b t w fs es = let ds = apart_by b fs (with_signs t w fs es) in add_all ds (fallback ds 0 w)

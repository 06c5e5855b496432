-- F1 by marks: one for each place where an edge ends whose txt ends with a digit (`marks`). Definitions only.
--     apart_by marks e            e is numeric, its txt begins with a decimal digit, and it starts at a place that has a mark
--     set_apart marks es i        es with the copy of its i-th edge, and that edge inactive, if it is apart by the marks
--     all_apart marks es i k      the same for k edges from the i-th on, in turn
--     Assumes nothing.
use Rattle.std.specs.Prelude.{ℕ, zero, suc, Bool, false, cond, ◌&&◌, List, get_or}
use Rattle.digits.specs.TextEnds.{begins_with_digit}
use Rattle.edge.specs.Edge.{Edge}
use Rattle.lattice.specs.Lattice.{add, turn_off_at}
use Rattle.lattice.specs.Kept.{no_edge}
use Rattle.numbers.specs.Fractions.{is_numeric}
use Rattle.numbers.specs.Separators.{copy_of}

unfoldable pub apart_by : List Bool → Edge → Bool
apart_by marks e = is_numeric e && (begins_with_digit e.txt && get_or marks e.start false)

unfoldable pub set_apart : List Bool → List Edge → ℕ → List Edge
set_apart marks es i = cond (apart_by marks (get_or es i no_edge)) (turn_off_at (add es (copy_of (get_or es i no_edge))) i) es

unfoldable pub all_apart : List Bool → List Edge → ℕ → ℕ → List Edge
all_apart marks es i zero = es
all_apart marks es i (suc k) = all_apart marks (set_apart marks es i) (suc i) k

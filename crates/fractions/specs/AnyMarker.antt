-- Whether a line has a marker at all. Definitions only.
--     is_marker m            m is a marker
--     marker_from t w p k    a marker of the table t counts at one of the k places from p on of the line's characters w
--     any_marker t w         one counts at some place
--     Assumes nothing.
use Rattle.std.specs.Prelude.{Bool, true, false, ◌||◌, List, ℕ, zero, suc, length}
use Rattle.table.specs.Table.{Table}
use Rattle.numbers.specs.Fractions.{Marker, percentage, connector, no_marker, marker_at}

abbrev pub is_marker : Marker → Bool
is_marker (percentage n) = true
is_marker (connector n) = true
is_marker no_marker = false

unfoldable pub marker_from : Table → List ℕ → ℕ → ℕ → Bool
marker_from t w p zero = false
marker_from t w p (suc k) = is_marker (marker_at t w p) || marker_from t w (suc p) k

abbrev pub any_marker : Table → List ℕ → Bool
any_marker t w = marker_from t w 0 (length w)

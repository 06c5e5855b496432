-- What a walk over a listing finds (01: "The listing is walked record by record from its front"). Definitions only.
--     whole s at      whether the edge at an offset ends within s
--     here_at s at     what stands at an offset: the head of a whole edge, or the end
--     behind s at     behind the whole edge at an offset; where none stands, the offset itself, so a walk that came to its end stays there
--     onward i s at   where a walk from an offset stands after i steps
--     Assumes nothing.
use Rattle.std.specs.Prelude.{ℕ, zero, suc, Bool, cond, List, length, leb, Option, Some, None}
use Rattle.edge.specs.Layout.{next_at}
use Rattle.edge.specs.View.{view_at}
use Rattle.edge.specs.declared.EdgeView.{EdgeView}

abbrev pub whole : List ℕ → ℕ → Bool
whole s at = leb (next_at s at) (length s)

abbrev pub here_at : List ℕ → ℕ → Option EdgeView
here_at s at = cond (whole s at) (Some (view_at s at)) None

abbrev pub behind : List ℕ → ℕ → ℕ
behind s at = cond (whole s at) (next_at s at) at

unfoldable pub onward : ℕ → List ℕ → ℕ → ℕ
onward zero s at = at
onward (suc i) s at = onward i s (behind s at)

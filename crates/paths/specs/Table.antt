-- The right neighbours of all places, as the code keeps them for the path: for each place a score, 0 for none, and an offset. Definitions only.
--     by_table s tops ats p     the right neighbour of place p that the tables tops and ats keep of the listing s
--     Rights skip s k t o      they keep the right neighbours of a listing of k edges
--     Steps s t o              the edges kept are within s, and lead on
--     hop_of s b                a step of the path, by the right neighbour b
--     size_of                   how many edges a path has and how long its listing is, or that it is longer than the room
-- Assumes nothing.
use Rattle.std.specs.Prelude.{ℕ, ◌≤◌, ◌<◌, ◌≡◌, Bool, cond, List, length, get_or, leb, Option, Some, None}
use Rattle.std.proofs.Math.Option.{none, some}
use Rattle.edge.specs.Edge.{Edge}
use Rattle.edge.specs.Layout.{next_at, edge_at}
use Rattle.paths.specs.Best.{Best, kept}
use Rattle.paths.specs.Path.{rights, path_listing}
use Rattle.text.specs.Line.{max_chars}
use Rattle.text.specs.declared.Offset.{Offset}
use Rattle.text.specs.declared.Place.{Place}

abbrev pub by_table : List ℕ → List ℕ → List ℕ → ℕ → Best
by_table s tops ats p = kept s (get_or tops p 0) (get_or ats p 0)

abbrev pub Rights : Bool → List ℕ → ℕ → List ℕ → List ℕ → Type 0
Rights skip s k tops ats = (p : ℕ) → p < max_chars → by_table s tops ats p ≡ rights skip s k p

-- an edge that starts at place p
pub record Step (s : List ℕ) (p o : ℕ) : Type 0 where
  pub whole : next_at s o ≤ length s
  pub leads_on : p < (edge_at s o).end

abbrev pub Steps : List ℕ → List ℕ → List ℕ → Type 0
Steps s tops ats = (p : ℕ) → p < max_chars → 0 < get_or tops p 0 → Step s p (get_or ats p 0)

unfoldable pub hop_of : List ℕ → Best → Option (Offset × Offset × Place)
hop_of s none = None
hop_of s (some x) = Some (record { 0 = x.0 }, record { 0 = next_at s x.0 }, record { 0 = x.1.end })

unfoldable pub size_of : List ℕ → List (ℕ × Edge) → ℕ → Option (ℕ × ℕ)
size_of s xs room = let n = length (path_listing s xs) in cond (leb n room) (Some (length xs, n)) None

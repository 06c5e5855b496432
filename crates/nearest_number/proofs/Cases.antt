-- Examples by computation: an edge that ends or starts at the place counts 0; distances on either side; each rule of the order. Assumes nothing.
use Prim.Native.Nat.{ℕ}
use mathlib.Core.Path.{◌≡◌, refl}
use mathlib.Core.Bool.{true, false}
use mathlib.Core.List.{[]}
use mathlib.Core.Option.{none}
use Rattle.edge.specs.Edge.{Edge}
use Rattle.nearest_number.specs.Nearest.{between, comes_first}

pub distances : (between 5 2 5 ≡ 0)  -- ends at the place
    × (between 5 5 7 ≡ 0)  -- starts there
    × (between 5 3 7 ≡ 0)
    × (between 5 1 4 ≡ 1)
    × (between 5 6 9 ≡ 1)
    × (between 0 3 4 ≡ 3)
    × (between 256 0 1 ≡ 255)
unfolding between
distances = (refl, refl, refl, refl, refl, refl, refl)

-- an edge from a to z; the order looks at nothing else
abbrev span : ℕ → ℕ → Edge
span a z = record { start = a; end = z; type = []; txt = []; num = none }

pub order : (comes_first 3 (span 4 6) (span 0 1) ≡ true)  -- one away before two
    × (comes_first 3 (span 0 2) (span 4 6) ≡ true)  -- at equal distance the earlier start
    × (comes_first 3 (span 0 3) (span 2 5) ≡ true)  -- ending at the place and around it: both count 0
    × (comes_first 3 (span 2 5) (span 2 3) ≡ true)  -- at equal start the longer
    × (comes_first 3 (span 2 3) (span 2 5) ≡ false)
    × (comes_first 3 (span 2 5) (span 2 5) ≡ false)  -- then listing order decides
unfolding comes_first between
order = (refl, refl, refl, refl, refl, refl)

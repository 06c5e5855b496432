-- Examples by computation: 02's own, both sides of TOP, and what makes a step refused.
use mathlib.Core.Path.{◌≡◌, refl}
use mathlib.Core.Option.{none, some}
use Rattle.passes.specs.Characters.{gcd_within, gcd, lowest}
use Rattle.shares.specs.Pool.{sum, pool}

pub examples : (pool (0, 1) (1, 3) ≡ some (1, 3))  -- none yet, then 三分之一
    × (pool (1, 3) (1, 6) ≡ some (1, 2))  -- 三分之一 and 六分之一
    × (pool (1, 2) (2, 4) ≡ some (1, 1))  -- a listed fraction may be unreduced
    × (pool (1, 2) (0, 7) ≡ some (1, 2))  -- or 0
    × (pool (9007199254740990, 1) (1, 1) ≡ some (9007199254740991, 1))  -- TOP is not refused
    × (pool (9007199254740991, 1) (1, 1) ≡ none)
    × (pool (9007199254740990, 1) (1, 2) ≡ none)  -- the grouping from the left is refused, though with 1/2 more the sum is TOP
    × (pool (1, 2) (1, 2) ≡ some (1, 1))  -- and the other is not
    × (pool (1, 9007199254740991) (1, 9007199254740991) ≡ some (2, 9007199254740991))
    × (pool (1, 9007199254740991) (1, 2) ≡ none)
unfolding pool sum lowest gcd gcd_within
examples = (refl, refl, refl, refl, refl, refl, refl, refl, refl, refl)

-- The groupings of three fractions, and what a listing's shares are in all, without steps and without TOP (02, S-6): for the theorems. Definitions only.
--     after_step o step   the second step, where the first, o, is not refused
--     left_first f g h, right_first f g h    three fractions pooled, the first two or the last two first; none where a step is refused
--     shares_of es        the shares of the edges es, in listing order
--     total f gs         the sum of f and the fractions gs as a ratio: over the product of all denominators, nothing reduced
--     Positive gs        no denominator is 0
--     FirstAbove i f es j    of the edges es, of which the first has index i, the edge of index j has a share; the edges before it come to a sum with f, and the
--                        step from that sum is refused
-- Assumes nothing.
use Rattle.std.specs.Prelude.{ℕ, ◌+◌, ◌*◌, ◌<◌, ◌≡◌, List, [], ◌∷◌, ◌++◌, length, Ok}
use Rattle.std.proofs.Math.Option.{Option, none, some}
use Rattle.edge.specs.Edge.{Edge}
use Rattle.shares.specs.Pool.{Fraction, pool}
use Rattle.shares.specs.Answers.{ratio_of}
use Rattle.shares.specs.Listing.{share, pool_from}

abbrev pub after_step : Option Fraction → (Fraction → Option Fraction) → Option Fraction
after_step none step = none
after_step (some x) step = step x

-- "three may be grouped either way"
abbrev pub left_first : Fraction → Fraction → Fraction → Option Fraction
left_first f g h = after_step (pool f g) (λ x. pool x h)

abbrev pub right_first : Fraction → Fraction → Fraction → Option Fraction
right_first f g h = after_step (pool g h) (λ x. pool f x)

unfoldable pub shares_of : List Edge → List Fraction
shares_of [] = []
shares_of (e ∷ es) = elim (share e) [ none ↦ shares_of es | some g ↦ g ∷ shares_of es ]

unfoldable pub total : Fraction → List Fraction → Fraction
total f [] = f
total f (g ∷ gs) = total (f.0 * g.1 + g.0 * f.1, f.1 * g.1) gs

unfoldable pub Positive : List Fraction → Type 0
Positive [] = Unit {0}
Positive (g ∷ gs) = (0 < g.1) × Positive gs

pub record FirstAbove (i : ℕ) (f : Fraction) (es : List Edge) (j : ℕ) : Type 0 where
  pub before : List Edge
  pub edge : Edge
  pub behind : List Edge
  pub parts : es ≡ before ++ (edge ∷ behind)
  pub index : j ≡ i + length before
  pub so_far : Fraction
  pub summed : pool_from i f before ≡ Ok (ratio_of so_far)
  pub its_share : Fraction
  pub has : share edge ≡ some its_share
  pub refused : pool so_far its_share ≡ none

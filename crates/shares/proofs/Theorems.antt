-- What 02 asks to be shown of pooled shares (S-6), over the definitions that the contracts cite.
--     sum_ratio       as a ratio the sum is the sum of the ratios, cross-multiplied
--     sum_in_lowest   it is in lowest terms: no number but 1 divides both parts, and the denominator is not 0
--     pool_order      "pooling two fractions doesn't depend on which comes first": sums and refusals
--     sum_groups      three may be grouped either way: the exact sums are one
--     groups_refused  when a grouping is refused: where the first two it pools, or all three, are above TOP; otherwise it gives the exact sum
--     pool_groups     "three may be grouped either way wherever neither grouping is refused"
--     pool_exact      "an exact sum in lowest terms": a listing that is not refused comes to the sum of all its shares, in lowest terms
--     pool_reordered  listings with the same shares in any order, neither refused, come to one sum
--     pool_first      "at the first step whose ..": the edge named has a share, the edges before it come to a sum, and that step is refused
--     pool_none       "none gives 0/1"
--     call_exact, call_first    the same of the call's answers: the listing's denominators are not 0
--     call_ratio      so the call's sum is in lowest terms, and as a ratio it is the sum of the edges' ratios
-- Assumes nothing.
use Prim.Native.Nat.{ℕ, ◌+◌, ◌*◌, ◌<◌}
use mathlib.Core.Path.{◌≡◌, sym, ap, ◌∙◌}
use mathlib.Core.Bool.{cond}
use mathlib.Core.List.{List, [], Permᴰ}
use mathlib.Core.Option.{none, some}
use native.Mathlib.Omega.{arith}
use native.Mathlib.Nat.{mul-pos}
use Rattle.passes.specs.declared.ratio.Ratio.{Ratio}
use Rattle.passes.specs.Characters.{gcd_within, gcd, lowest}
use Rattle.passes.proofs.LowestLaws.{lowest_same, lowest_coprime}
use Rattle.passes.proofs.ratio.RatioLaws.{lowest_positive}
use Rattle.edge.specs.Edge.{Edge}
use Rattle.edge.specs.Layout.{listed}
use Rattle.shares.specs.Pool.{Fraction, sum, fits, unless_above, pool}
use Rattle.shares.specs.Answers.{fraction_of, ratio_of}
use Rattle.shares.specs.Listing.{pool_edges, pool_shares}
use Rattle.shares.specs.Total.{left_first, right_first, shares_of, total, Positive, FirstAbove}
use Rattle.shares.proofs.GcdLaws.{Coprime}
use Rattle.shares.proofs.TotalLaws.{total_reordered, total_positive, exact_from, first_above_lem, none_pooled, by_edges, call_positive}
use Rattle.shares.proofs.PoolLaws.{sum_comm, sum_assoc, pool_is, pool_then}
use Rattle.std.specs.Prelude.{Ok, Err}
use Rattle.shares.specs.declared.SharesRefusal.TheVariants as SharesRefusal

module _ (a b c d : ℕ) (b-pos : 0 < b) (d-pos : 0 < d) where
  pub sum_ratio : (sum (a, b) (c, d)).0 * (b * d) ≡ (a * d + c * b) * (sum (a, b) (c, d)).1
  unfolding sum
  sum_ratio = lowest_same (a * d + c * b) (b * d) (mul-pos b-pos d-pos)

  pub sum_in_lowest : Coprime (sum (a, b) (c, d)).0 (sum (a, b) (c, d)).1 × (0 < (sum (a, b) (c, d)).1)
  unfolding sum
  sum_in_lowest = (lowest_coprime (a * d + c * b) (b * d) (mul-pos b-pos d-pos), lowest_positive (a * d + c * b) (b * d) (mul-pos b-pos d-pos))

pub pool_order : (f g : Fraction) → pool f g ≡ pool g f
unfolding pool
pool_order f g = rw (sum_comm f g)

module _ (f g h : Fraction) (f-pos : 0 < f.1) (g-pos : 0 < g.1) (h-pos : 0 < h.1) where
  pub sum_groups : sum (sum f g) h ≡ sum f (sum g h)
  sum_groups = sum_assoc f g h f-pos g-pos h-pos

  pub groups_refused : (left_first f g h ≡ cond (fits (sum f g)) (unless_above (sum (sum f g) h)) none)
      × (right_first f g h ≡ cond (fits (sum g h)) (unless_above (sum (sum f g) h)) none)
  unfolding pool
  groups_refused = (pool_then f g (λ x. pool x h), rw sum_groups (pool_then g h (pool f)))

  pub pool_groups : {left right first last : Fraction} →
      pool f g ≡ some left → pool left h ≡ some first → pool g h ≡ some right → pool f right ≡ some last → first ≡ last
  pool_groups {left} {right} {first} {last} l lh r fr =
      cc (pool_is f g l, pool_is left h lh, pool_is g h r, pool_is f right fr, sum_groups)

-- ---- a whole listing
pub pool_exact : (es : List Edge) (r : Ratio) → Positive (shares_of es) → pool_edges es ≡ Ok r → fraction_of r ≡ lowest (total (0, 1) (shares_of es))
unfolding lowest gcd gcd_within
pool_exact es r h e = exact_from es r 0 (0, 1) (omega arith) h e

pub pool_reordered : (es fs : List Edge) (r t : Ratio) → Positive (shares_of es) → Positive (shares_of fs) → Permᴰ (shares_of es) (shares_of fs) →
    pool_edges es ≡ Ok r → pool_edges fs ≡ Ok t → r ≡ t
pool_reordered es fs r t h k same p q = ap ratio_of (pool_exact es r h p ∙ ap lowest (total_reordered (0, 1) same) ∙ sym (pool_exact fs t k q))

pub pool_first : (es : List Edge) (i : ℕ) → pool_edges es ≡ Err (SharesRefusal.Above i) → FirstAbove 0 (0, 1) es i
pool_first es i e = first_above_lem es i 0 (0, 1) e

pub pool_none : (es : List Edge) → shares_of es ≡ [] → pool_edges es ≡ Ok (record { numerator = 0; denominator = 1 })
pool_none es h = none_pooled 0 (0, 1) es h

-- ---- the call
pub call_exact : (line s : List ℕ) (r : Ratio) → pool_shares line s ≡ Ok r → fraction_of r ≡ lowest (total (0, 1) (shares_of (listed s)))
call_exact line s r =
    by_edges line s (λ a. a ≡ Ok r → fraction_of r ≡ lowest (total (0, 1) (shares_of (listed s)))) (λ x e. let z : ◌≡◌ {A = ℕ} 0 1 = cc in absurd (omega arith))
    (λ h. pool_exact (listed s) r h)

pub call_first : (line s : List ℕ) (i : ℕ) → pool_shares line s ≡ Err (SharesRefusal.Above i) → FirstAbove 0 (0, 1) (listed s) i
call_first line s i =
    by_edges line s (λ a. a ≡ Err (SharesRefusal.Above i) → FirstAbove 0 (0, 1) (listed s) i) (λ x e. let z : ◌≡◌ {A = ℕ} 0 1 = cc in absurd (omega arith)) (λ _. pool_first (listed s) i)

pub call_ratio : (line s : List ℕ) (r : Ratio) → pool_shares line s ≡ Ok r →
    let all = total (0, 1) (shares_of (listed s)) in
    Coprime r.numerator r.denominator × (r.numerator * all.1 ≡ all.0 * r.denominator)
call_ratio line s r e =
    let all = total (0, 1) (shares_of (listed s)) in
    let positive : 0 < all.1 = total_positive (0, 1) (shares_of (listed s)) (omega arith) (call_positive line s r e) in
    let is : fraction_of r ≡ lowest all = call_exact line s r e in
    let above : r.numerator ≡ (lowest all).0 = ap (λ (f : Fraction). f.0) is in
    let below : r.denominator ≡ (lowest all).1 = ap (λ (f : Fraction). f.1) is in
    rw (above, below) (lowest_coprime all.0 all.1 positive, lowest_same all.0 all.1 positive)

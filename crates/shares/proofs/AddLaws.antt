-- The sum of two fractions as `add` makes it (`specs/Answers.antt`). In order: two numbers in parts as a fraction; the common divisor of the denominators, and
-- what the numerator has in common with it; the sum; one step. Assumes nothing.
use Prim.Native.Nat.{ℕ, ◌+◌, ◌*◌, ◌/◌, ◌%◌, ◌≤◌, ◌<◌}
use mathlib.Core.Path.{◌≡◌, ap, ◌∙◌}
use mathlib.Core.Bool.{Bool, true, false, ◌&&◌}
use native.Mathlib.Nat.{le_trans, le_of_dvd, div-le_self}
use lib.Dec.{leb}
use borrow.Author.Tests.{leb-true}
use Rattle.text.proofs.RowLaws.{and-true}
use Rattle.whole.specs.Whole.{TOP}
use Rattle.wide.specs.declared.Wide.{Wide}
use Rattle.wide.specs.Numbers.{wide_of, wide}
use Rattle.wide.proofs.WideLaws.{value_of, narrow}
use Rattle.passes.specs.declared.ratio.Ratio.{Ratio}
use Rattle.passes.specs.Characters.{gcd, lowest}
use Rattle.passes.proofs.LowestLaws.{gcd_divides, lowest_coprime}
use Rattle.passes.proofs.ratio.RatioLaws.{gcd_positive, gcd_turn, lowest_at_most, lowest_positive}
use Rattle.shares.specs.Pool.{Fraction, sum, fits, unless_above, pool}
use Rattle.shares.specs.Answers.{fraction_of, Reduced, pooled}
use Rattle.shares.proofs.GcdLaws.{Coprime}
use Rattle.shares.proofs.PoolLaws.{sum_by_common, sum_lowest_right, lowest_again}
use Rattle.std.specs.Prelude.{Some, None}

-- ---- two numbers in parts
module _ (above below : Wide) (n d : ℕ) (is-n : above ≡ wide n) (is-d : below ≡ wide d) where
  pub both_fit : {p q : Bool} → p ≡ leb (wide_of above) TOP → q ≡ leb (wide_of below) TOP → (p && q) ≡ fits (n, d)
  both_fit a b = rw (a, b, value_of n is-n, value_of d is-d)

  pub narrow_fits : fits (n, d) ≡ true → Some (record { numerator = above.lo; denominator = below.lo }) ≡ pooled (unless_above (n, d))
  narrow_fits t =
      let (p, q) = and-true (leb n TOP) (leb d TOP) t in
      rw (t, is-n, is-d, narrow n (leb-true n TOP p), narrow d (leb-true d TOP q))

pub narrow_above : (n d : ℕ) → fits (n, d) ≡ false → None ≡ pooled (unless_above (n, d))
narrow_above n d t = rw t

-- ---- the divisors
pub part_fits : (d k : ℕ) → d ≤ TOP → d / k ≤ TOP
part_fits d k h = le_trans (div-le_self d k) h

pub reduced_coprime : {r : Ratio} → Reduced r → Coprime r.numerator r.denominator
reduced_coprime {r} R = rw R.same at (lowest_coprime r.numerator r.denominator R.positive)

module _ (f g : Ratio) (F : Reduced f) (G : Reduced g) {common : ℕ} (is-common : common ≡ gcd f.denominator g.denominator) where
  pub common_between : (0 < common) × (common ≤ TOP)
  common_between =
      rw is-common
      (gcd_positive f.denominator g.denominator G.positive, le_trans (le_of_dvd G.positive (gcd_divides f.denominator g.denominator).1) G.denominator)

  -- what the numerator t has in common with it
  pub again_between : (t : ℕ) {again : ℕ} → again ≡ gcd common (t % common) → (again ≡ gcd t common) × (0 < again) × (again ≤ TOP)
  again_between t e =
      let is-again = e ∙ gcd_turn t common common_between.0 in
      (is-again, rw is-again (gcd_positive t common common_between.0), rw is-again (le_trans (le_of_dvd common_between.0 (gcd_divides t common).1) common_between.1))

  pub sum_is : {again : ℕ} → let t = f.numerator * (g.denominator / common) + g.numerator * (f.denominator / common) in
      again ≡ gcd t common → sum (fraction_of f) (fraction_of g) ≡ (t / again, f.denominator / common * (g.denominator / again))
  sum_is e =
      rw (e, is-common)
      (sum_by_common f.numerator f.denominator g.numerator g.denominator F.positive G.positive (reduced_coprime F) (reduced_coprime G))

-- ---- one step, with a fraction as it is listed
pub reduced_lowest : (r : Ratio) (n d : ℕ) → fraction_of r ≡ lowest (n, d) → n ≤ TOP → d ≤ TOP → 0 < d → Reduced r
reduced_lowest r n d e n-fits d-fits d-pos =
    let above : r.numerator ≡ (lowest (n, d)).0 = ap (λ (f : Fraction). f.0) e in
    let below : r.denominator ≡ (lowest (n, d)).1 = ap (λ (f : Fraction). f.1) e in
    let positive : 0 < r.denominator = rw below (lowest_positive n d d-pos) in
    record {
      numerator = rw above (le_trans (lowest_at_most n d).0 n-fits);
      denominator = rw below (le_trans (lowest_at_most n d).1 d-fits);
      positive = positive;
      same = rw e (lowest_again n d d-pos);
    }

pub pool_lowest : (f : Fraction) (n d : ℕ) → 0 < f.1 → 0 < d → pool f (lowest (n, d)) ≡ pool f (n, d)
unfolding pool
pool_lowest f n d f-pos d-pos = rw (sum_lowest_right f n d f-pos d-pos)

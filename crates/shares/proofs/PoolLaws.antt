-- Laws of the sum of two fractions and of one step of pooling (`specs/Pool.antt`). In order: a sum with terms not reduced, of three fractions; a step;
-- the sum by way of the denominators' common divisor. Assumes nothing.
use Prim.Native.Nat.{ℕ, ◌+◌, ◌*◌, ◌/◌, ◌<◌, ◌∣◌}
use mathlib.Core.Path.{◌≡◌, refl, sym, ap, ◌∙◌}
use mathlib.Core.Bool.{Bool, true, false, cond}
use mathlib.Core.Option.{Option, none, some}
use native.Mathlib.Omega.{arith}
use native.Mathlib.Nat.{add_comm, mul_comm, mul-pos, mul-div_assoc, dvd_trans, dvd-mul_left_of_dvd, dvd-mul_left, dvd-mul_right_of_dvd, dvd-add_iff_left, mul-div_cancel'}
use lib.Dec.{leb}
use borrow.Author.Tests.{leb-true}
use Rattle.text.proofs.RowLaws.{and-true}
use Rattle.whole.specs.Whole.{TOP}
use Rattle.passes.specs.Characters.{gcd, lowest}
use Rattle.passes.proofs.LowestLaws.{gcd_divides, lowest_same, lowest_coprime}
use Rattle.passes.proofs.ratio.RatioLaws.{gcd_positive, lowest_positive}
use Rattle.shares.specs.Pool.{Fraction, sum, fits, pool}
use Rattle.shares.specs.Answers.{ratio_of, Reduced}
use Rattle.shares.specs.Total.{after_step}
use Rattle.shares.proofs.GcdLaws.{Coprime, gcd_coprime, coprime_divides, lowest_times, same_ratio}

pub sum_comm : (f g : Fraction) → sum f g ≡ sum g f
unfolding sum
sum_comm (a, b) (c, d) = rw (add_comm (a * d) (c * b), mul_comm b d)

-- ---- a term need not be in lowest terms
pub sum_lowest_left : (n d : ℕ) (g : Fraction) → 0 < d → 0 < g.1 → sum (lowest (n, d)) g ≡ sum (n, d) g
unfolding sum
sum_lowest_left n d (p, q) d-pos q-pos =
    go (lowest (n, d)).0 (lowest (n, d)).1 (lowest_positive n d d-pos) (lowest_same n d d-pos)
  where
    go : (x y : ℕ) → 0 < y → x * d ≡ n * y → lowest (x * q + p * y, y * q) ≡ lowest (n * q + p * d, d * q)
    go x y y-pos e =
        same_ratio (x * q + p * y) (y * q) (n * q + p * d) (d * q) (mul-pos y-pos q-pos) (mul-pos d-pos q-pos) (omega (arith, ap (λ (m : ℕ). m * (q * q)) e))

pub sum_lowest_right : (f : Fraction) (n d : ℕ) → 0 < f.1 → 0 < d → sum f (lowest (n, d)) ≡ sum f (n, d)
sum_lowest_right f n d f-pos d-pos = sum_comm f (lowest (n, d)) ∙ sum_lowest_left n d f d-pos f-pos ∙ sum_comm (n, d) f

pub sum_assoc : (f g h : Fraction) → 0 < f.1 → 0 < g.1 → 0 < h.1 → sum (sum f g) h ≡ sum f (sum g h)
unfolding sum
sum_assoc (a, b) (c, d) (p, q) b-pos d-pos q-pos =
    sum_lowest_left (a * d + c * b) (b * d) (p, q) (mul-pos b-pos d-pos) q-pos ∙ regrouped
    ∙ sym (sum_lowest_right (a, b) (c * q + p * d) (d * q) b-pos (mul-pos d-pos q-pos))
  where
    regrouped : sum (a * d + c * b, b * d) (p, q) ≡ sum (a, b) (c * q + p * d, d * q)
    regrouped =
        let above : (a * d + c * b) * q + p * (b * d) ≡ a * (d * q) + (c * q + p * d) * b = omega arith in
        let below : b * d * q ≡ b * (d * q) = omega arith in
        rw (above, below)

-- what is in lowest terms stays as it is
pub lowest_again : (n d : ℕ) → 0 < d → lowest (lowest (n, d)) ≡ lowest (n, d)
lowest_again n d h = same_ratio (lowest (n, d)).0 (lowest (n, d)).1 n d (lowest_positive n d h) h (lowest_same n d h)

-- ---- a step
pub pool_is : (f g : Fraction) {h : Fraction} → pool f g ≡ some h → h ≡ sum f g
unfolding pool
pool_is f g {h} e = go (fits (sum f g)) e
  where
    go : (t : Bool) → cond t (some (sum f g)) none ≡ some h → h ≡ sum f g
    go true e = cc
    go false e = cc

pub pool_fits : (f g : Fraction) {h : Fraction} → pool f g ≡ some h → fits (sum f g) ≡ true
unfolding pool
pool_fits f g {h} e = go (fits (sum f g)) e
  where
    go : (t : Bool) → cond t (some (sum f g)) none ≡ some h → t ≡ true
    go true e = refl
    go false e = cc

-- a step and a second one
pub pool_then : (f g : Fraction) (step : Fraction → Option Fraction) → after_step (pool f g) step ≡ cond (fits (sum f g)) (step (sum f g)) none
unfolding pool
pool_then f g step = go (fits (sum f g))
  where
    go : (t : Bool) → after_step (cond t (some (sum f g)) none) step ≡ cond t (step (sum f g)) none
    go true = refl
    go false = refl

-- its sum is in lowest terms, and neither part is above TOP
pub pool_reduced : (f g : Fraction) {h : Fraction} → 0 < f.1 → 0 < g.1 → pool f g ≡ some h → Reduced (ratio_of h)
unfolding sum
pool_reduced (a, b) (c, d) {h} b-pos d-pos e =
    let is_sum : h ≡ lowest (a * d + c * b, b * d) = pool_is (a, b) (c, d) e in
    let (p, q) = and-true (leb (sum (a, b) (c, d)).0 TOP) (leb (sum (a, b) (c, d)).1 TOP) (pool_fits (a, b) (c, d) e) in
    let positive : 0 < b * d = mul-pos b-pos d-pos in
    rw is_sum
    record {
      numerator = leb-true _ TOP p;
      denominator = leb-true _ TOP q;
      positive = lowest_positive (a * d + c * b) (b * d) positive;
      same = lowest_again (a * d + c * b) (b * d) positive;
    }

-- ---- by way of the denominators' common divisor (Knuth, The Art of Computer Programming, volume 2, 4.5.1)
-- a sum of two terms has nothing in common with x, which one term has for a factor and the other not
pub sum_coprime : (n m x y d : ℕ) → Coprime n d → x ∣ d → Coprime x y → Coprime (n * y + m * x) x
sum_coprime n m x y d terms of-d apart c of-sum of-x =
    let of-term : c ∣ n * y = (dvd-add_iff_left c (dvd-mul_left_of_dvd c of-x m)).1 of-sum in
    let of-y : c ∣ y = coprime_divides c n y (λ e h k. terms e k (dvd_trans e h (dvd_trans c of-x of-d))) of-term in
    apart c of-x of-y

-- denominators g * x and g * y, where x and y have nothing in common: over g * (x * y) the numerator is n * y + m * x, and only g has something in common with it
by_common : (n m g x y : ℕ) → 0 < g → Coprime n (g * x) → Coprime m (g * y) → Coprime x y →
    sum (n, g * x) (m, g * y) ≡ ((n * y + m * x) / gcd (n * y + m * x) g, x * (g * y / gcd (n * y + m * x) g))
unfolding sum lowest
by_common n m g x y g-pos f-lowest g-lowest apart =
    rw (above, below, lowest_times g (n * y + m * x) (x * (g * y)) g-pos) (reduced (n * y + m * x) without_x without_y)
  where
    above : n * (g * y) + m * (g * x) ≡ g * (n * y + m * x)
    above = omega arith

    below : g * x * (g * y) ≡ g * (x * (g * y))
    below = omega arith

    without_x : Coprime (n * y + m * x) x
    without_x = sum_coprime n m x y (g * x) f-lowest (dvd-mul_left x g) apart

    without_y : Coprime (n * y + m * x) y
    without_y = rw (add_comm (n * y) (m * x)) (sum_coprime m n y x (g * y) g-lowest (dvd-mul_left y g) (λ c h k. apart c k h))

    reduced : (t : ℕ) → Coprime t x → Coprime t y → lowest (t, x * (g * y)) ≡ (t / gcd t g, x * (g * y / gcd t g))
    reduced t p q =
        let only-g : gcd t (x * (g * y)) ≡ gcd t g = gcd_coprime t x (g * y) p ∙ rw (mul_comm g y) (gcd_coprime t y g q) in
        rw (only-g, mul-div_assoc (gcd t g) x (dvd-mul_right_of_dvd (gcd t g) (gcd_divides t g).1 y))

-- of two fractions in lowest terms
pub sum_by_common : (n b m d : ℕ) → 0 < b → 0 < d → Coprime n b → Coprime m d →
    let g = gcd b d in
    let t = n * (d / g) + m * (b / g) in
    sum (n, b) (m, d) ≡ (t / gcd t g, b / g * (d / gcd t g))
unfolding lowest
sum_by_common n b m d b-pos d-pos f-lowest g-lowest =
    let g = gcd b d in
    let of-b : g * (b / g) ≡ b = mul-div_cancel' g (gcd_divides b d).0 in
    let of-d : g * (d / g) ≡ d = mul-div_cancel' g (gcd_divides b d).1 in
    rw (of-b, of-d) at (by_common n m g (b / g) (d / g) (gcd_positive b d d-pos) (rw of-b f-lowest) (rw of-d g-lowest) (lowest_coprime b d d-pos))

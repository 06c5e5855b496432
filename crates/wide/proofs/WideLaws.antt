-- Laws of whole numbers in two parts (`specs/Numbers.antt`). In order: two parts and their number; the product by halves; the number up to TOP.
-- No contract cites this file. Assumes nothing.
use Prim.Native.Nat.{ℕ, zero, suc, ◌+◌, ◌*◌, ◌/◌, ◌%◌, ◌≤◌, ◌<◌}
use mathlib.Core.Path.{◌≡◌, sym, ap, ◌∙◌}
use mathlib.Core.Bool.{◌&&◌}
use lib.Dec.{eqb, leb, eqb-suc-zero}
use borrow.Author.Tests.{lt-leb}
use native.Mathlib.Omega.{arith}
use native.Mathlib.Nat.{zero-add, mul-le-mul, div-add-mod'}
use Rattle.whole.specs.Whole.{TOP}
use Rattle.wide.specs.declared.Wide.{Wide}
use Rattle.wide.specs.Numbers.{RADIX, Parts, wide_of, wide}

-- ---- two parts and their number
pub of_wide : (n : ℕ) → wide_of (wide n) ≡ n
unfolding wide_of wide
of_wide n = omega arith

pub value_of : {x : Wide} (n : ℕ) → x ≡ wide n → wide_of x ≡ n
value_of n e = ap wide_of e ∙ of_wide n

pub wide_of_lem : (h l n : ℕ) → l < RADIX → h * RADIX + l ≡ n → record { hi = h; lo = l } ≡ wide n
unfolding wide
wide_of_lem h l n small e =
    let upper : h ≡ n / RADIX = omega arith in
    let lower : l ≡ n % RADIX = omega arith in
    rw (upper, lower)

pub parts_wide : (n : ℕ) → n ≤ 2 * (TOP * TOP) → Parts (wide n)
unfolding wide
parts_wide n h = record { hi = omega arith; lo = omega arith }

pub parts_product : (a b : ℕ) → a ≤ TOP → b ≤ TOP → Parts (wide (a * b))
parts_product a b h k = parts_wide (a * b) (omega (arith, mul-le-mul h k))

pub parts_products : (a b c d : ℕ) → a ≤ TOP → b ≤ TOP → c ≤ TOP → d ≤ TOP → Parts (wide (a * b + c * d))
parts_products a b c d h k l m = parts_wide (a * b + c * d) (omega (arith, mul-le-mul h k, mul-le-mul l m))

-- up to TOP the lower part is the number
pub narrow : (n : ℕ) → n ≤ TOP → (wide n).lo ≡ n
unfolding wide
narrow n h = omega arith

-- ---- the product by halves
-- where the factors are cut
abbrev pub LEFT_HALF : ℕ
LEFT_HALF = 268435456

abbrev pub RIGHT_HALF : ℕ
RIGHT_HALF = 134217728

-- what the four products come to at most
pub record Halves (a b : ℕ) : Type 0 where
  pub upper_upper : a / LEFT_HALF * (b / RIGHT_HALF) ≤ 33554431 * 67108863
  pub upper_lower : a / LEFT_HALF * (b % RIGHT_HALF) ≤ 33554431 * 134217727
  pub lower_upper : a % LEFT_HALF * (b / RIGHT_HALF) ≤ 268435455 * 67108863
  pub lower_lower : a % LEFT_HALF * (b % RIGHT_HALF) ≤ 268435455 * 134217727

pub halves_at_most : (a b : ℕ) → a ≤ TOP → b ≤ TOP → Halves a b
halves_at_most a b a-fits b-fits = record {
  upper_upper = mul-le-mul {n₂ = 33554431} {m₂ = 67108863} (omega arith) (omega arith);
  upper_lower = mul-le-mul {n₂ = 33554431} {m₂ = 134217727} (omega arith) (omega arith);
  lower_upper = mul-le-mul {n₂ = 268435455} {m₂ = 67108863} (omega arith) (omega arith);
  lower_lower = mul-le-mul {n₂ = 268435455} {m₂ = 134217727} (omega arith) (omega arith);
}

-- the four products, with what they carry, are the product
carried : (p x y q low : ℕ) → low ≡ x % RIGHT_HALF * LEFT_HALF + y % LEFT_HALF * RIGHT_HALF + q →
    (p + x / RIGHT_HALF + y / LEFT_HALF + low / RADIX) * RADIX + low % RADIX ≡ p * RADIX + x * LEFT_HALF + y * RIGHT_HALF + q
carried p x y q low e = omega arith

multiplied : (a1 a0 b1 b0 : ℕ) → a1 * b1 * RADIX + a1 * b0 * LEFT_HALF + a0 * b1 * RIGHT_HALF + a0 * b0 ≡ (a1 * LEFT_HALF + a0) * (b1 * RIGHT_HALF + b0)
multiplied a1 a0 b1 b0 = omega arith

pub product_by_halves : (a b low : ℕ) →
    low ≡ a / LEFT_HALF * (b % RIGHT_HALF) % RIGHT_HALF * LEFT_HALF + a % LEFT_HALF * (b / RIGHT_HALF) % LEFT_HALF * RIGHT_HALF + a % LEFT_HALF * (b % RIGHT_HALF) →
    (a / LEFT_HALF * (b / RIGHT_HALF) + a / LEFT_HALF * (b % RIGHT_HALF) / RIGHT_HALF + a % LEFT_HALF * (b / RIGHT_HALF) / LEFT_HALF + low / RADIX) * RADIX + low % RADIX
    ≡ a * b
product_by_halves a b low e =
    carried _ _ _ _ low e ∙ multiplied (a / LEFT_HALF) (a % LEFT_HALF) (b / RIGHT_HALF) (b % RIGHT_HALF)
    ∙ rw (div-add-mod' a LEFT_HALF, div-add-mod' b RIGHT_HALF)

-- ---- up to TOP
pub fits_of : (h l : ℕ) → (eqb h 0 && leb l TOP) ≡ leb (h * RADIX + l) TOP
fits_of zero l = rw zero-add
fits_of (suc h) l = rw (eqb-suc-zero h) (sym (lt-leb (suc h * RADIX + l) TOP (omega arith)))

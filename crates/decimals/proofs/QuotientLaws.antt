-- The f64 of a written decimal is the exact ratio, rounded once: up to TOP, and up to fifteen decimals, both operands of the division are exact.
-- In order: the division of two exact values; the f64; its bits; it is no NaN. No contract cites this file. Assumes nothing.
use mathlib.Core.Path.{◌≡◌, refl, sym, ap, ◌∙◌}
use mathlib.Core.Bool.{Bool, true, false, not, cond, true≢false}
use Prim.Native.Nat.{ℕ, zero, suc, ◌+◌, ◌-◌, ◌*◌, ◌/◌, ◌%◌, ◌^◌, ◌≤◌, ◌<◌, compare}
use native.Mathlib.Nat.{mul-one, mul_assoc, mul_comm, mul_left_comm, mul-pos, zero-mul}
use native.Mathlib.Omega.{arith}
use lib.Dec.{T, eqb, ltb, eqb→eq, lit<}
use lib.IntN.{ℤ}
use lib.Ieee.{Float, nan, inf, fin, Format, binary64, prec, emax, low, up, down, size, nearest, odd, units, round, div, of_int, to_bits, of_bits, is_nan}
use lib.Ieee.Exact.{HasValue}
use lib.Ieee.Scale.{round_same}
use lib.Ieee.Fits.{down_pos, div-fits}
use lib.Ieee.Bits.{of_bits-to_bits, to_bits-lt}
use Rattle.whole.specs.Whole.{TOP, of_nat}
use Rattle.whole.proofs.WholeLaws.{of_nat-value}
use Rattle.decimals.specs.Quotient.{quotient}
use Rattle.decimals.proofs.PowerLaws.{power_positive, power_top}

-- the divisor is not zero
nonzero : (m : ℕ) (e : ℤ) (n : ℕ) → 0 < n → m * up e ≡ n * down e → eqb m 0 ≡ false
nonzero m e n h q = go (eqb m 0) refl
  where
    go : (t : Bool) → eqb m 0 ≡ t → t ≡ false
    go false k = refl
    go true k =
        let zero-m : m ≡ 0 = eqb→eq m 0 (rw k tt) in
        let none : m * up e ≡ 0 = ap (λ (z : ℕ). z * up e) zero-m ∙ zero-mul (up e) in
        let some : 0 < n * down e = mul-pos h (down_pos e) in
        absurd (omega (arith, q))

div_at : (x y : Float) (m n : ℕ) → 0 < n → HasValue x false m 1 → HasValue y false n 1 → div binary64 x y ≡ round binary64 false m n
unfolding div
div_at nan y m n h p q = absurd p
div_at (inf s) y m n h p q = absurd p
div_at (fin s a e) nan m n h p q = absurd q
div_at (fin s a e) (inf t) m n h p q = absurd q
div_at (fin true a e) (fin t b d) m n h p q = absurd (true≢false p.0)
div_at (fin false a e) (fin true b d) m n h p q = absurd (true≢false q.0)
div_at (fin false a e) (fin false b d) m n h p q =
    let x = sym (mul-one (a * up e)) ∙ p.1 in
    let y = sym (mul-one (b * up d)) ∙ q.1 in
    rw (nonzero b d n h y)
    (round_same binary64 false (a * up e * down d) (b * up d * down e) m n (rw y (mul-pos (mul-pos h (down_pos d)) (down_pos e))) h
    (ap (λ (z : ℕ). z * down d * n) x ∙ middle m n (down e) (down d) ∙ ap (λ (z : ℕ). m * (z * down e)) (sym y)))
  where
    middle : (m n e d : ℕ) → m * e * d * n ≡ m * (n * d * e)
    middle m n e d = simp (mul_assoc, mul_comm, mul_left_comm)

-- the value is the ratio of the digits and the power of ten, rounded to the nearest f64
pub quotient_rounded : (n k : ℕ) → n ≤ TOP → k ≤ 15 → quotient n k ≡ round binary64 false n (10 ^ k)
unfolding quotient
quotient_rounded n k h j =
    div_at (of_nat n) (of_nat (10 ^ k)) n (10 ^ k) (power_positive k) (of_nat-value n (omega arith))
    (of_nat-value (10 ^ k) (omega (arith, power_top j)))

-- without decimals it is the f64 of the digits
pub quotient_whole : (n : ℕ) → n ≤ TOP → quotient n 0 ≡ of_nat n
unfolding of_nat of_int
quotient_whole n h = quotient_rounded n 0 h (omega arith)

-- "even at 100.0": the f64 of a written decimal that says a whole number is that number's, so that only the count of decimals tells them apart
pub quotient_same : (n k : ℕ) → n * 10 ^ k ≤ TOP → k ≤ 15 → quotient (n * 10 ^ k) k ≡ of_nat n
unfolding of_nat of_int
quotient_same n k h j =
    quotient_rounded (n * 10 ^ k) k h j ∙ round_same binary64 false (n * 10 ^ k) (10 ^ k) n 1 (power_positive k) (lit< tt) (mul-one (n * 10 ^ k))

-- the bits that a listing has for it are read back as it, and are a u64
pub quotient_bits_back : (n k : ℕ) → of_bits binary64 (to_bits binary64 (quotient n k)) ≡ quotient n k
unfolding quotient
quotient_bits_back n k = of_bits-to_bits binary64 (quotient n k) (div-fits binary64 (of_nat n) (of_nat (10 ^ k)))

pub quotient_bits_fit : (n k : ℕ) → to_bits binary64 (quotient n k) < 2 ^ 64
unfolding quotient
quotient_bits_fit n k = to_bits-lt binary64 (quotient n k) (div-fits binary64 (of_nat n) (of_nat (10 ^ k)))

-- it is no NaN, so that it may be read and written as an f64
odd_not_nan : (d : ℕ) (s : Bool) (q k l : ℕ) → T (not (is_nan (odd d s q k l)))
unfolding odd is_nan
odd_not_nan d s zero k l = tt
odd_not_nan d s (suc q) k l = tt

units_not_nan : (f : Format) (s : Bool) (q k : ℕ) → T (not (is_nan (units f s q k)))
unfolding units is_nan
units_not_nan f s q k = go (ltb (q * 2 ^ k) (2 ^ (low f + suc (emax f))))
  where
    go : (b : Bool) → T (not (is_nan (cond b (odd (suc (prec f)) s q k (low f)) (inf s))))
    go true = odd_not_nan (suc (prec f)) s q k (low f)
    go false = tt

round_not_nan : (f : Format) (s : Bool) (num den : ℕ) → T (not (is_nan (round f s num den)))
unfolding round
round_not_nan f s num den =
    let n = num * 2 ^ low f in
    let k = size (n / den) - prec f in
    let u = den * 2 ^ k in
    units_not_nan f s (nearest (n / u) (compare (n % u * 2) u)) k

pub quotient_not_nan : (n k : ℕ) → n ≤ TOP → k ≤ 15 → T (not (is_nan (quotient n k)))
quotient_not_nan n k h j = rw (quotient_rounded n k h j) (round_not_nan binary64 false n (10 ^ k))

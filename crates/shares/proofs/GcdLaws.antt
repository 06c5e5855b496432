-- Greatest common divisors and lowest terms, beyond what `passes` proves of Euclid's algorithm. In order: common factors; numbers without a common divisor;
-- the lowest terms of equal ratios. Assumes nothing.
use Prim.Native.Nat.{ℕ, zero, suc, ◌*◌, ◌/◌, ◌%◌, ◌≤◌, ◌<◌, ◌∣◌}
use mathlib.Core.Path.{◌≡◌, refl, sym, ap, ◌∙◌}
use native.Mathlib.Omega.{arith}
use mathlib.Core.Logic.{⊎_elim}
use native.Mathlib.Nat.{le_refl, eq-zero-or-pos, mod-lt, mod_def, mul-zero, mul-one, mul_comm, mul_assoc, mul-sub, mul-pos, mul-div-mul_left, dvd-zero, dvd-mul_left, dvd-mul_left_of_dvd, dvd_trans, dvd_antisymm}
use Rattle.passes.specs.Characters.{gcd, lowest}
use Rattle.passes.proofs.LowestLaws.{gcd_divides, gcd_greatest}
use Rattle.passes.proofs.ratio.RatioLaws.{gcd_turn, gcd_ends}

-- ---- common factors
mod_times : (c a b : ℕ) → 0 < c → c * a % (c * b) ≡ c * (a % b)
mod_times c a b h =
    mod_def (c * a) (c * b) ∙ rw (mul-div-mul_left a b h, mul_assoc c b (a / b), ← mul-sub c a (b * (a / b)), ← mod_def a b) refl

pub gcd_times : (c a b : ℕ) → 0 < c → gcd (c * a) (c * b) ≡ c * gcd a b
gcd_times c a b h = within b a b (le_refl b)
  where
    ended : (a b : ℕ) → b ≡ 0 → gcd (c * a) (c * b) ≡ c * gcd a b
    ended a b e = gcd_ends (c * a) (c * b) (ap (λ (m : ℕ). c * m) e ∙ mul-zero c) ∙ sym (ap (λ (m : ℕ). c * m) (gcd_ends a b e))

    -- by the turns of Euclid's algorithm, at most k
    within : (k a b : ℕ) → b ≤ k → gcd (c * a) (c * b) ≡ c * gcd a b
    within zero a b l = ended a b (omega arith)
    within (suc k) a b l =
        ⊎_elim (ended a b)
        (λ p. sym (gcd_turn (c * a) (c * b) (mul-pos h p)) ∙ rw (mod_times c a b h, ← gcd_turn a b p) (within k b (a % b) (omega (arith, mod-lt a p))))
        (eq-zero-or-pos b)

pub lowest_times : (c a b : ℕ) → 0 < c → lowest (c * a, c * b) ≡ lowest (a, b)
unfolding lowest
lowest_times c a b h = rw (gcd_times c a b h, mul-div-mul_left a (gcd a b) h, mul-div-mul_left b (gcd a b) h)

-- ---- numbers without a common divisor but 1
abbrev pub Coprime : ℕ → ℕ → Type 0
Coprime a b = (c : ℕ) → c ∣ a → c ∣ b → c ≡ 1

-- what divides a product and has nothing in common with one factor divides the other
pub coprime_divides : (c x z : ℕ) → Coprime c x → c ∣ x * z → c ∣ z
coprime_divides c x zero p h = dvd-zero c
coprime_divides c x (suc z) p h =
    let one : gcd c x ≡ 1 = p (gcd c x) (gcd_divides c x).0 (gcd_divides c x).1 in
    let whole : gcd (suc z * c) (suc z * x) ≡ suc z = gcd_times (suc z) c x (omega arith) ∙ rw one (mul-one (suc z)) in
    rw whole at (gcd_greatest (suc z * c) (suc z * x) c (dvd-mul_left c (suc z)) (rw (mul_comm (suc z) x) h))

-- a factor that has nothing in common with t does not count
pub gcd_coprime : (t x m : ℕ) → Coprime t x → gcd t (x * m) ≡ gcd t m
gcd_coprime t x m p =
    let (of-t, of-product) = gcd_divides t (x * m) in
    let (to-t, to-m) = gcd_divides t m in
    dvd_antisymm
    (gcd_greatest t m (gcd t (x * m)) of-t (coprime_divides (gcd t (x * m)) x m (λ c h k. p c (dvd_trans c h of-t) k) of-product))
    (gcd_greatest t (x * m) (gcd t m) to-t (dvd-mul_left_of_dvd (gcd t m) to-m x))

-- ---- equal ratios have the same lowest terms
pub same_ratio : (a b c d : ℕ) → 0 < b → 0 < d → a * d ≡ c * b → lowest (a, b) ≡ lowest (c, d)
same_ratio a b c d b-pos d-pos e =
    sym (lowest_times d a b d-pos) ∙ rw (mul_comm d a, e, mul_comm d b, mul_comm c b) (lowest_times b c d b-pos)

-- `lowest` gives a fraction in lowest terms (01: "A fraction goes to lowest terms"): the same ratio, and no common divisor but 1.
-- In order: Euclid's algorithm divides both numbers, and whatever divides both divides its answer; the fraction.
use Prim.Native.Nat.{ℕ, zero, suc, ◌*◌, ◌/◌, ◌%◌, ◌≤◌, ◌<◌, ◌∣◌}
use mathlib.Core.Path.{◌≡◌, refl, sym, ap, ◌∙◌}
use mathlib.Core.Bool.{Bool, true, false, true≢false}
use native.Mathlib.Omega.{arith}
use native.Mathlib.Nat.{le_refl, zero-div, mod-lt, mul_comm, mul_assoc, mul-one, dvd_refl, dvd-zero, dvd-mod_iff, mul-dvd-mul_left, dvd_of_mul-dvd-mul_left, eq-one_of_dvd-one, mul-div_cancel', pos_of_dvd_of_pos}
use lib.Dec.{eqb, eqb→eq}
use Rattle.passes.specs.Characters.{gcd_within, gcd, lowest}

positive : (b : ℕ) → eqb b 0 ≡ false → 0 < b
positive zero e = absurd (true≢false e)
positive (suc b) e = omega arith

-- a step of the algorithm: b is 0, and a is the answer; or it goes on with b and a % b
step : (P : ℕ → Type 0) (k a b : ℕ) → b ≤ suc k → (b ≡ 0 → P a) → (a % b ≤ k → P (gcd_within k b (a % b))) → P (gcd_within (suc k) a b)
unfolding gcd_within
step P k a b h f g = go (eqb b 0) refl
  where
    go : (t : Bool) → eqb b 0 ≡ t → P (elim t [ true ↦ a | false ↦ gcd_within k b (a % b) ])
    go true e = f (eqb→eq b 0 (rw e tt))
    go false e = g (omega (arith, mod-lt a (positive b e)))

abbrev pub DividesBoth : ℕ → ℕ → ℕ → Type 0
DividesBoth a b g = (g ∣ a) × (g ∣ b)

within_divides : (k a b : ℕ) → b ≤ k → DividesBoth a b (gcd_within k a b)
unfolding gcd_within
within_divides zero a b h = let e : b ≡ 0 = omega arith in (dvd_refl a, rw e (dvd-zero a))
within_divides (suc k) a b h =
    step (DividesBoth a b) k a b h (λ e. (dvd_refl a, rw e (dvd-zero a)))
    (λ l. let (p, q) = within_divides k b (a % b) l in ((dvd-mod_iff _ p).0 q, p))

within_greatest : (k a b c : ℕ) → b ≤ k → c ∣ a → c ∣ b → c ∣ gcd_within k a b
unfolding gcd_within
within_greatest zero a b c h p q = p
within_greatest (suc k) a b c h p q = step (λ g. c ∣ g) k a b h (λ _. p) (λ l. within_greatest k b (a % b) c l q ((dvd-mod_iff c q).1 p))

pub gcd_divides : (a b : ℕ) → DividesBoth a b (gcd a b)
unfolding gcd
gcd_divides a b = within_divides b a b (le_refl b)

pub gcd_greatest : (a b c : ℕ) → c ∣ a → c ∣ b → c ∣ gcd a b
unfolding gcd
gcd_greatest a b c = within_greatest b a b c (le_refl b)

-- ---- the fraction
module _ (n d : ℕ) (d-pos : 0 < d) where
  -- both parts times the greatest common divisor are the fraction again
  times : (gcd n d * (lowest (n, d)).0 ≡ n) × (gcd n d * (lowest (n, d)).1 ≡ d)
  unfolding lowest
  times = (mul-div_cancel' (gcd n d) (gcd_divides n d).0, mul-div_cancel' (gcd n d) (gcd_divides n d).1)

  -- the same ratio, cross-multiplied
  pub lowest_same : (lowest (n, d)).0 * d ≡ n * (lowest (n, d)).1
  lowest_same = same_ratio (gcd n d) (lowest (n, d)).0 (lowest (n, d)).1 times.0 times.1
    where
      same_ratio : (g x y : ℕ) → g * x ≡ n → g * y ≡ d → x * d ≡ n * y
      same_ratio g x y p q = rw (← p, ← q) (sym (mul_assoc x g y) ∙ ap (λ (m : ℕ). m * y) (mul_comm x g))

  pub lowest_coprime : (c : ℕ) → c ∣ (lowest (n, d)).0 → c ∣ (lowest (n, d)).1 → c ≡ 1
  lowest_coprime c p q =
      let whole : gcd n d * c ∣ gcd n d = gcd_greatest n d (gcd n d * c) (rw times.0 at (mul-dvd-mul_left c (gcd n d) p)) (rw times.1 at (mul-dvd-mul_left c (gcd n d) q)) in
      eq-one_of_dvd-one (dvd_of_mul-dvd-mul_left c (pos_of_dvd_of_pos (gcd_divides n d).1 d-pos) (rw (mul-one (gcd n d)) whole))

-- "0/d to 0/1"
pub lowest_zero : (d : ℕ) → 0 < d → ((lowest (0, d)).0 ≡ 0) × ((lowest (0, d)).1 ≡ 1)
unfolding lowest
lowest_zero d d-pos =
    let zero-over : 0 / gcd 0 d ≡ 0 = zero-div (gcd 0 d) in
    (zero-over, lowest_coprime 0 d d-pos (d / gcd 0 d) (rw zero-over (dvd-zero (d / gcd 0 d))) (dvd_refl (d / gcd 0 d)))

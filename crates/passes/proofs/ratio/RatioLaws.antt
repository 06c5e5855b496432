-- Euclid's algorithm one step at a time: how many steps are allowed does not matter, as long as they are enough. In order: one step; the end; the steps;
-- a turn of the loop; the divisor of a fraction is not 0; neither part of a fraction in lowest terms is above what it was, and its lower part is not 0.
use Prim.Native.Nat.{ℕ, zero, suc, ◌+◌, ◌*◌, ◌%◌, ◌≤◌, ◌<◌, ◌∣◌}
use mathlib.Core.Path.{◌≡◌, refl, sym, ◌∙◌}
use native.Mathlib.Omega.{arith}
use native.Mathlib.Nat.{le_refl, mod-lt, div-le_self, dvd-zero, mul-pos, mul-zero}
use borrow.Author.Tests.{ne_eqb}
use Rattle.passes.specs.Characters.{gcd_within, gcd, lowest}
use Rattle.passes.proofs.LowestLaws.{lowest_same, lowest_coprime}

step : (k a b : ℕ) → 0 < b → gcd_within (suc k) a b ≡ gcd_within k b (a % b)
unfolding gcd_within
step k a b h = rw (ne_eqb b 0 (λ e. omega arith), gcd_within)

ends : (k a b : ℕ) → b ≡ 0 → gcd_within k a b ≡ a
unfolding gcd_within
ends zero a b e = refl
ends (suc k) a b e = rw e

steps : (j k a b : ℕ) → b ≤ j → b ≤ k → gcd_within j a b ≡ gcd_within k a b
steps zero k a b h l = ends zero a b (omega arith) ∙ sym (ends k a b (omega arith))
steps (suc j) zero a b h l = ends (suc j) a b (omega arith) ∙ sym (ends zero a b (omega arith))
steps (suc j) (suc k) a zero h l = ends (suc j) a zero refl ∙ sym (ends (suc k) a zero refl)
steps (suc j) (suc k) a (suc b) h l =
    let m : a % suc b < suc b = mod-lt a (omega arith) in
    step j a (suc b) (omega arith) ∙ steps j k (suc b) (a % suc b) (omega arith) (omega arith) ∙ sym (step k a (suc b) (omega arith))

pub gcd_turn : (a b : ℕ) → 0 < b → gcd b (a % b) ≡ gcd a b
unfolding gcd
gcd_turn a zero h = absurd (omega arith)
gcd_turn a (suc b) h =
    let m : a % suc b < suc b = mod-lt a (omega arith) in
    steps (a % suc b) b (suc b) (a % suc b) (le_refl _) (omega arith) ∙ sym (step b a (suc b) (omega arith))

pub gcd_ends : (a b : ℕ) → b ≡ 0 → gcd a b ≡ a
unfolding gcd
gcd_ends a b e = ends b a b e

positive_within : (k a b : ℕ) → b ≤ k → 0 < a + b → 0 < gcd_within k a b
positive_within zero a b h p = rw (ends zero a b (omega arith)) (omega arith)
positive_within (suc k) a zero h p = rw (ends (suc k) a zero refl) (omega arith)
positive_within (suc k) a (suc b) h p =
    let m : a % suc b < suc b = mod-lt a (omega arith) in
    rw (step k a (suc b) (omega arith)) (positive_within k (suc b) (a % suc b) (omega arith) (omega arith))

pub gcd_positive : (n d : ℕ) → 0 < d → 0 < gcd n d
unfolding gcd
gcd_positive n d h = positive_within d n d (le_refl d) (omega arith)

pub lowest_at_most : (n d : ℕ) → ((lowest (n, d)).0 ≤ n) × ((lowest (n, d)).1 ≤ d)
unfolding lowest
lowest_at_most n d = (div-le_self n (gcd n d), div-le_self d (gcd n d))

-- with 0 below, both would be 0, which 2 divides
pub lowest_positive : (n d : ℕ) → 0 < d → 0 < (lowest (n, d)).1
lowest_positive n d h = go (lowest (n, d)).0 (lowest (n, d)).1 (lowest_same n d h) (lowest_coprime n d h 2)
  where
    go : (x y : ℕ) → x * d ≡ n * y → (2 ∣ x → 2 ∣ y → ◌≡◌ {A = ℕ} 2 1) → 0 < y
    go x (suc y) e k = omega arith
    go zero zero e k = let z = k (dvd-zero 2) (dvd-zero 2) in absurd (omega arith)
    go (suc x) zero e k = absurd (omega (arith, e ∙ mul-zero n, mul-pos {m = suc x} {n = d} (omega arith) h))

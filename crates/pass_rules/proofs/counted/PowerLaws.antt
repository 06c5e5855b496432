-- Laws of `power_within` (`passes`, specs/Passes.antt) for the loop of `is_power_of_10`. No contract cites this file.
use mathlib.Core.Path.{◌≡◌, refl}
use mathlib.Core.Bool.{false}
use Prim.Native.Nat.{ℕ, zero, suc, ◌/◌, ◌%◌, ◌≤◌, ◌<◌}
use native.Mathlib.Omega.{arith}
use lib.Dec.{eqb}
use borrow.Author.Tests.{eq-eqb, ne_eqb}
use Rattle.passes.specs.Passes.{power_within, power_of_ten}

-- the loop's state m, with as many divisions left as can be needed, decides whether n is a power of ten
pub record Dividing (n m : ℕ) : Type 0 where
  pub left : ℕ
  pub enough : m ≤ left
  pub positive : 0 < m
  pub so_far : power_within left m ≡ power_of_ten n

pub divides_first : (n : ℕ) → (n ≡ 0 → ⊥) → Dividing n n
unfolding power_of_ten
divides_first n h = record { left = n; enough = omega arith; positive = omega arith; so_far = refl }

pub divides_again : (n m : ℕ) → Dividing n m → m % 10 ≡ 0 → Dividing n (m / 10)
unfolding power_within
divides_again n m d e = go d.left d.enough d.so_far
  where
    go : (k : ℕ) → m ≤ k → power_within k m ≡ power_of_ten n → Dividing n (m / 10)
    go zero h s = let p = d.positive in absurd (omega arith)
    go (suc k) h s =
        let p = d.positive in
        record { left = k; enough = omega arith; positive = omega arith; so_far = rw (eq-eqb (m % 10) 0 e, power_within) at s }

pub divides_ends : (n m : ℕ) → Dividing n m → (m % 10 ≡ 0 → ⊥) → eqb m 1 ≡ power_of_ten n
unfolding power_within
divides_ends n m d e = go d.left d.enough d.so_far
  where
    go : (k : ℕ) → m ≤ k → power_within k m ≡ power_of_ten n → eqb m 1 ≡ power_of_ten n
    go zero h s = let p = d.positive in absurd (omega arith)
    go (suc k) h s = rw (ne_eqb (m % 10) 0 e, power_within) at s

pub power_zero : power_of_ten 0 ≡ false
unfolding power_of_ten power_within
power_zero = refl

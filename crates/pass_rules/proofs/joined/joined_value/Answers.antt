-- `joined_value` meets its contract. Assumes nothing.
use mathlib.Core.Path.{◌≡◌}
use Prim.Native.Nat.{ℕ, ◌*◌, ◌/◌}
use native.Mathlib.Omega.{arith}
use Rattle.pass_rules.proofs.joined.joined_value.Goals as goal

-- a product of whole values is divided by 10 ^ 0
by_one : (n : ℕ) → n / 1 ≡ n
by_one n = omega arith

pub returns-in-G1 : goal.returns-in-G1
returns-in-G1 c m n h k p q = rw (c.in-G1.is, by_one (m * n)) (c.product.ensures m n h k p q)

pub returns-in-G2 : goal.returns-in-G2
returns-in-G2 c m n h k p q = rw c.in-G2.is (c.sum.ensures m n h k p q)

pub returns-in-G3 : goal.returns-in-G3
returns-in-G3 c m n h k p q = rw (c.in-G3.is, by_one (m * n)) (c.product-in-G3.ensures m n h k p q)

pub returns-in-G4 : goal.returns-in-G4
returns-in-G4 c m n h k p q = rw c.in-G4.is (c.sum-in-G4.ensures m n h k p q)

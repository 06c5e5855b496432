-- Tests as equations: a comparison or a conjunction that is true or false, for the proofs of this crate.
use Prim.Native.Nat.{ℕ, ◌≤◌, ◌<◌}
use mathlib.Core.Path.{◌≡◌, refl}
use mathlib.Core.Bool.{Bool, true, false, ◌&&◌}
use lib.Dec.{T, leb, eqb, leb→le, le→leb, nleb→lt, eqb→eq, eqb_refl}

pub true→T : {b : Bool} → b ≡ true → T b
true→T e = rw e tt

pub T→true : (b : Bool) → T b → b ≡ true
T→true true t = refl
T→true false t = absurd t

pub le_true : {m n : ℕ} → m ≤ n → leb m n ≡ true
le_true {m} {n} h = T→true (leb m n) (le→leb m n h)

pub true_le : (m n : ℕ) → leb m n ≡ true → m ≤ n
true_le m n e = leb→le m n (true→T e)

pub false_lt : (m n : ℕ) → leb m n ≡ false → n < m
false_lt m n e = nleb→lt m n (rw e tt)

pub and_left : (a b : Bool) → a && b ≡ true → a ≡ true
and_left true b e = refl
and_left false b e = e

pub and_right : (a b : Bool) → a && b ≡ true → b ≡ true
and_right true b e = e
and_right false b e = absurd cc

pub eqb_self : (n : ℕ) → eqb n n ≡ true
eqb_self n = T→true (eqb n n) (eqb_refl n)

pub eqb-true : (m n : ℕ) → eqb m n ≡ true → m ≡ n
eqb-true m n e = eqb→eq m n (true→T e)

pub eqb-false : (m n : ℕ) → (m ≡ n → ⊥) → eqb m n ≡ false
eqb-false m n h = go (eqb m n) refl
  where
    go : (b : Bool) → eqb m n ≡ b → eqb m n ≡ false
    go true e = absurd (h (eqb-true m n e))
    go false e = e

pub regroup : (p x y z : Bool) → p && x && y && z ≡ p && (x && y && z)
regroup true x y z = refl
regroup false x y z = refl

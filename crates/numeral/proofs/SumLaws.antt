-- Products that stop counting above TOP, by the tests that the code makes: both factors small, or whether a is above TOP / b.
use Prim.Native.Nat.{ℕ, ◌+◌, ◌*◌, ◌/◌, ◌≤◌, ◌<◌}
use mathlib.Core.Path.{◌≡◌}
use mathlib.Core.Logic.{◌↔◌}
use mathlib.Core.Bool.{true, ◌&&◌}
use native.Mathlib.Omega.{arith}
use native.Mathlib.Nat.{div-lt_iff_lt-mul, mul-zero, mul-le-mul}
use lib.Dec.{leb, ltb}
use borrow.Author.Tests.{ltb-true, leb-true}
use Rattle.table_grammar.proofs.Tests.{and_left, and_right}
use Rattle.whole.specs.Whole.{TOP}
use Rattle.numeral.specs.Walk.{capped}
use Rattle.numeral.proofs.Capped.{at_most_or_above}

pub times_zero : (a b : ℕ) → b ≡ 0 → 0 ≡ capped (a * b)
times_zero a b e = rw (e, mul-zero a)

-- the test that both factors are small passes products up to TOP alone, wherever its bounds are not too large
pub times_small : (a b m n : ℕ) → ltb a m && leb b n ≡ true → m ≤ 8192 → n ≤ 1000000000000 → a * b ≤ TOP
times_small a b m n e h k =
    let l = ltb-true a m (and_left (ltb a m) _ e) in
    let g = leb-true b n (and_right (ltb a m) _ e) in
    let i : a ≤ 8191 = omega arith in
    let j : b ≤ 1000000000000 = omega arith in
    omega (arith, mul-le-mul i j)

module _ (a b : ℕ) (h : b ≡ 0 → ⊥) where
  quotient : (TOP / b < a) ↔ (TOP < a * b)
  quotient = let p : 0 < b = omega arith in div-lt_iff_lt-mul p

  pub times_above : TOP / b < a → TOP + 1 ≡ capped (a * b)
  times_above k = let l = quotient.0 k in omega arith

  pub times_within : a ≤ TOP / b → a * b ≤ TOP
  times_within k = at_most_or_above (a * b) TOP (λ l. l) (λ l. let m = quotient.1 l in absurd (omega arith))

-- What each case of `decimals::exact_product` says of the product n and the power of ten d, for callers: the test whether it is whole, and its value as `whole` has
-- values (`specs/Answers.antt` there). No contract cites this file. Assumes nothing.
use Prim.Native.Nat.{ℕ, ◌/◌, ◌%◌, ◌≤◌, ◌<◌}
use mathlib.Core.Path.{◌≡◌, refl}
use mathlib.Core.Bool.{Bool, true, false, cond}
use native.Mathlib.Omega.{arith}
use lib.Dec.{eqb, leb, ltb}
use borrow.Author.Tests.{ltb-true, ltb-false, leb-true, leb-false, eq-eqb, ne_eqb, le-ltb, lt-ltb}
use Rattle.whole.specs.Whole.{TOP, of_nat}
use Rattle.whole.specs.Answers.{value}
use Rattle.wide.specs.Numbers.{exact_quotient}
use Rattle.std.specs.Prelude.{Option, Some, None, Result, Ok, Err}
use Rattle.whole.specs.Answers.{above_top}
use Rattle.whole.specs.declared.AboveTop.{AboveTop}

module _ (n d : ℕ) where
  -- the answer by its two tests
  abbrev answered : Bool → Bool → Result (Option ℕ) AboveTop
  answered rest small = cond rest (Ok None) (cond small (Ok (Some (n / d))) (Err above_top))

  no_rest : ltb 0 (n % d) ≡ false → eqb (n % d) 0 ≡ true
  no_rest h = eq-eqb (n % d) 0 (let l = ltb-false 0 (n % d) h in omega arith)

  pub product_not_whole : exact_quotient n d ≡ Ok None → eqb (n % d) 0 ≡ false
  product_not_whole e = go (ltb 0 (n % d)) (leb (n / d) TOP) refl e
    where
      go : (rest small : Bool) → ltb 0 (n % d) ≡ rest → answered rest small ≡ Ok None → eqb (n % d) 0 ≡ false
      go true small h e = ne_eqb (n % d) 0 (λ z. let l = ltb-true 0 (n % d) h in omega arith)
      go false true h e = let z : ◌≡◌ {A = ℕ} 0 1 = cc in absurd (omega arith)
      go false false h e = let z : ◌≡◌ {A = ℕ} 0 1 = cc in absurd (omega arith)

  pub product_whole : {v : ℕ} → exact_quotient n d ≡ Ok (Some v) → (eqb (n % d) 0 ≡ true) × (v ≡ n / d) × (n / d ≤ TOP) × (value (n / d) ≡ Ok (of_nat v))
  product_whole {v} e = go (ltb 0 (n % d)) (leb (n / d) TOP) refl refl e
    where
      go : (rest small : Bool) → ltb 0 (n % d) ≡ rest → leb (n / d) TOP ≡ small → answered rest small ≡ Ok (Some v)
          → (eqb (n % d) 0 ≡ true) × (v ≡ n / d) × (n / d ≤ TOP) × (value (n / d) ≡ Ok (of_nat v))
      go true small h k e = let z : ◌≡◌ {A = ℕ} 0 1 = cc in absurd (omega arith)
      go false false h k e = let z : ◌≡◌ {A = ℕ} 0 1 = cc in absurd (omega arith)
      go false true h k e =
          let l = leb-true (n / d) TOP k in
          let same : v ≡ n / d = cc in
          (no_rest h, same, l, rw (le-ltb TOP (n / d) l, same))

  pub product_above : exact_quotient n d ≡ Err above_top → (eqb (n % d) 0 ≡ true) × (TOP < n / d) × (value (n / d) ≡ Err above_top)
  product_above e = go (ltb 0 (n % d)) (leb (n / d) TOP) refl refl e
    where
      go : (rest small : Bool) → ltb 0 (n % d) ≡ rest → leb (n / d) TOP ≡ small → answered rest small ≡ Err above_top
          → (eqb (n % d) 0 ≡ true) × (TOP < n / d) × (value (n / d) ≡ Err above_top)
      go true small h k e = let z : ◌≡◌ {A = ℕ} 0 1 = cc in absurd (omega arith)
      go false true h k e = let z : ◌≡◌ {A = ℕ} 0 1 = cc in absurd (omega arith)
      go false false h k e = let l = leb-false (n / d) TOP k in (no_rest h, l, rw (lt-ltb TOP (n / d) l))

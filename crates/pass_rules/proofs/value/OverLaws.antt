-- Laws of what the value over two edges answers (`specs/Over.antt`), for this crate's proofs. No contract cites this file.
-- In order: what each answer says; values of whole edges; where one has decimals. Assumes nothing.
use mathlib.Core.Path.{◌≡◌, refl}
use mathlib.Core.Bool.{Bool, true, false, cond, ◌&&◌}
use Prim.Native.Nat.{ℕ, ◌/◌, ◌%◌, ◌^◌, ◌≤◌, ◌<◌}
use native.Mathlib.Omega.{arith}
use lib.Dec.{ltb, leb, eqb}
use lib.Ieee.{Float}
use borrow.Author.Tests.{ltb-true, ltb-false, eqb-true, lt-ltb, le-ltb}
use Rattle.text.proofs.RowLaws.{and-true}
use Rattle.whole.specs.Whole.{TOP, of_nat}
use Rattle.whole.specs.Answers.{value}
use Rattle.whole.proofs.AnswersLaws.{value_fits, value_above}
use Rattle.wide.specs.Numbers.{exact_quotient}
use Rattle.decimals.proofs.ProductLaws.{product_not_whole, product_whole, product_above}
use Rattle.passes.specs.Passes.{Pass, D1, G1, G2, G3, G4}
use Rattle.pass_list.specs.StoredEdge.{StoredEdge}
use Rattle.pass_list.specs.StoredPass.{value_of, both_whole, whole_product, takes_decimal, decimals_fit}
use Rattle.pass_rules.specs.Over.{over_answer}
use Rattle.std.specs.Prelude.{Some, None, Ok, Err}
use Rattle.whole.specs.Answers.{above_top}

-- ---- what each answer says
module _ (f : Bool) (n : ℕ) where
  pub over_apart : over_answer f n ≡ Ok None → f ≡ false
  over_apart e = go f (ltb TOP n) e
    where
      go : (f above : Bool) → cond f (cond above (Err above_top) (Ok (Some (of_nat n)))) (Ok None) ≡ Ok None → f ≡ false
      go true true e = absurd (let z : ◌≡◌ {A = ℕ} 0 1 = cc in omega arith)
      go true false e = absurd (let z : ◌≡◌ {A = ℕ} 0 1 = cc in omega arith)
      go false above e = refl

  pub over_above : over_answer f n ≡ Err above_top → (f ≡ true) × (TOP < n)
  over_above e = go f (ltb TOP n) refl e
    where
      go : (f above : Bool) → ltb TOP n ≡ above → cond f (cond above (Err above_top) (Ok (Some (of_nat n)))) (Ok None) ≡ Err above_top → (f ≡ true) × (TOP < n)
      go true true h e = (refl, ltb-true TOP n h)
      go true false h e = absurd (let z : ◌≡◌ {A = ℕ} 0 1 = cc in omega arith)
      go false above h e = absurd (let z : ◌≡◌ {A = ℕ} 0 1 = cc in omega arith)

  pub over_value : {v : Float} → over_answer f n ≡ Ok (Some v) → (f ≡ true) × (n ≤ TOP) × (v ≡ of_nat n)
  over_value {v} e = go f (ltb TOP n) refl e
    where
      go : (f above : Bool) → ltb TOP n ≡ above → cond f (cond above (Err above_top) (Ok (Some (of_nat n)))) (Ok None) ≡ Ok (Some v) → (f ≡ true) × (n ≤ TOP) × (v ≡ of_nat n)
      go true true h e = absurd (let z : ◌≡◌ {A = ℕ} 0 1 = cc in omega arith)
      go true false h e = (refl, ltb-false TOP n h, cc)
      go false above h e = absurd (let z : ◌≡◌ {A = ℕ} 0 1 = cc in omega arith)

-- the answer of a sum or a product n
pub known_value : (n : ℕ) {v : Float} → value n ≡ Ok v → Ok (Some v) ≡ over_answer true n
known_value n e = let a = value_fits n e in rw (a.1, le-ltb TOP n a.0)

pub known_above : (n : ℕ) → value n ≡ Err above_top → Err above_top ≡ over_answer true n
known_above n e = rw (lt-ltb TOP n (value_above n e))

-- ---- the exact product n by d
module _ (n d : ℕ) where
  pub product_apart : exact_quotient n d ≡ Ok None → Ok None ≡ over_answer (eqb (n % d) 0) (n / d)
  product_apart e = rw (product_not_whole n d e)

  pub product_large : exact_quotient n d ≡ Err above_top → Err above_top ≡ over_answer (eqb (n % d) 0) (n / d)
  product_large e = let a = product_above n d e in rw (a.0, lt-ltb TOP (n / d) a.1)

  pub product_fits : {v : ℕ} {u : Float} → exact_quotient n d ≡ Ok (Some v) → u ≡ of_nat v → Ok (Some u) ≡ over_answer (eqb (n % d) 0) (n / d)
  product_fits e h = let a = product_whole n d e in rw (a.0, le-ltb TOP (n / d) a.2, h, a.1)

-- ---- two whole edges, and edges with decimals
and-false : (a : Bool) → (a && false) ≡ false
and-false true = refl
and-false false = refl

module _ (x y : StoredEdge) where
  pub whole_fits : (p : Pass) → both_whole x y ≡ true → over_answer true (value_of p 0 x.value y.value) ≡ over_answer (decimals_fit p x y) (value_of p x.decimals x.value y.value)
  whole_fits p h = go p (eqb-true x.decimals 0 (and-true (eqb x.decimals 0) (eqb y.decimals 0) h).0)
    where
      go : (p : Pass) → x.decimals ≡ 0 → over_answer true (value_of p 0 x.value y.value) ≡ over_answer (decimals_fit p x y) (value_of p x.decimals x.value y.value)
      go D1 z = refl
      go G1 z = rw (h, z)
      go G2 z = rw h
      go G3 z = rw (h, z)
      go G4 z = rw h

  module _ (h : both_whole x y ≡ false) where
    pub one_fits : eqb y.decimals 0 && takes_decimal G1 x y ≡ decimals_fit G1 x y
    one_fits = rw h

    pub large_fits : eqb y.decimals 0 && takes_decimal G3 x y ≡ decimals_fit G3 x y
    large_fits = rw h

    pub sum_unfit : decimals_fit G2 x y ≡ false
    sum_unfit = rw (h, and-false (eqb y.decimals 0))

    pub block_unfit : decimals_fit G4 x y ≡ false
    block_unfit = rw (h, and-false (eqb y.decimals 0))

  -- G1 asks the written decimal first
  pub from_one : leb (10 ^ x.decimals) x.value ≡ true → (eqb y.decimals 0 && whole_product x y) ≡ (eqb y.decimals 0 && takes_decimal G1 x y)
  from_one h = rw h

  pub below_one : leb (10 ^ x.decimals) x.value ≡ false → (eqb y.decimals 0 && takes_decimal G1 x y) ≡ false
  below_one h = rw (h, and-false (eqb y.decimals 0))

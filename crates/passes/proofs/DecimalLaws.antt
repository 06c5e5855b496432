-- What the later passes do with an edge that has decimals (02, S-13).
-- In order: whom they do not take; whom they take, and the product.
use Prim.Native.Nat.{ℕ, ◌*◌, ◌%◌, ◌^◌, ◌<◌}
use mathlib.Core.Path.{◌≡◌, refl}
use mathlib.Core.Bool.{Bool, true, false, ◌&&◌}
use mathlib.Core.Option.{none, some}
use native.Mathlib.Nat.{div-mul_cancel, dvd_of_mod-eq-zero}
use native.Mathlib.Omega.{arith}
use lib.Dec.{eqb}
use borrow.Author.Tests.{eqb-true, ne_eqb}
use Rattle.text.proofs.RowLaws.{and-true}
use Rattle.passes.specs.NumEdge.{or_zero}
use Rattle.passes.specs.Passes.{Pass, G2, G4, longer, touches, over}
use Rattle.passes.specs.DecimalPasses.{DecimalEdge, DecimalChain, whole_chain, next_later, takes_decimal, decimal_rule, decimal_product, digits_product}

not_zero : (k : ℕ) → 0 < k → eqb k 0 ≡ false
not_zero k h = ne_eqb k 0 (λ e. omega arith)

and-false : (t : Bool) → (t && false) ≡ false
and-false true = refl
and-false false = refl

-- "on the left": no pass takes an edge with decimals on the right
pub none_right : (p : Pass) (c : DecimalChain) (e : DecimalEdge) → 0 < e.decimals → next_later p c e ≡ none
unfolding next_later takes_decimal
none_right p c e h = rw (not_zero e.decimals h, and-false (eqb c.decimals 0))

-- "Of the later passes only G1 and G3": the chains of G2 and G4 do not go on from one
pub none_g2 : (c : DecimalChain) (e : DecimalEdge) → 0 < c.decimals → next_later G2 c e ≡ none
unfolding next_later takes_decimal decimal_rule
none_g2 c e h = rw (not_zero c.decimals h, and-false (touches c.chain e.edge), and-false (eqb e.decimals 0))

pub none_g4 : (c : DecimalChain) (e : DecimalEdge) → 0 < c.decimals → next_later G4 c e ≡ none
unfolding next_later takes_decimal decimal_rule
none_g4 c e h = rw (not_zero c.decimals h, and-false (touches c.chain e.edge), and-false (eqb e.decimals 0))

-- ---- "exactly where their rule does and the exact product of the written decimal is whole"
module _ (p : Pass) (c : DecimalChain) (e : DecimalEdge) (decimal : 0 < c.decimals) where
  pub taken : takes_decimal p c e ≡ true → next_later p c e ≡ some (whole_chain (longer c.chain e.edge (decimal_product p c.decimals c.chain.edge e.edge)))
  unfolding next_later
  taken h = rw (not_zero c.decimals decimal, h)

  pub not_taken : takes_decimal p c e ≡ false → next_later p c e ≡ none
  unfolding next_later
  not_taken h = rw (not_zero c.decimals decimal, h)

  -- "the result is that product": times 10 ^ decimals it is the product of the digits
  pub product_exact : takes_decimal p c e ≡ true
      → or_zero (decimal_product p c.decimals c.chain.edge e.edge).value * 10 ^ c.decimals ≡ digits_product c.chain.edge e.edge
  unfolding takes_decimal decimal_product over
  product_exact h =
      let tests = (and-true (eqb e.decimals 0) _ h).1 in
      let rest = (and-true (touches c.chain e.edge) _ tests).1 in
      let whole = (and-true (decimal_rule p c.decimals c.chain e.edge) (eqb (digits_product c.chain.edge e.edge % 10 ^ c.decimals) 0) rest).1 in
      div-mul_cancel (10 ^ c.decimals) (dvd_of_mod-eq-zero (10 ^ c.decimals) (eqb-true (digits_product c.chain.edge e.edge % 10 ^ c.decimals) 0 whole))

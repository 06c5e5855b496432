-- `product_from_one` meets its contract. Assumes nothing.
use mathlib.Core.Path.{◌≡◌, ap, ◌∙◌}
use mathlib.Core.Bool.{Bool}
use Prim.Native.Nat.{◌*◌, ◌/◌, ◌^◌, ◌≤◌, ◌<◌}
use native.Mathlib.Omega.{arith}
use borrow.Author.Tests.{le-leb, lt-leb}
use Rattle.whole.specs.Whole.{of_nat}
use Rattle.pass_list.specs.declared.record.PassEdge.{PassEdge}
use Rattle.pass_list.specs.StoredEdge.{StoredEdge, EdgeIs}
use Rattle.pass_rules.specs.Over.{over_answer}
use Rattle.pass_rules.proofs.value.OverLaws.{from_one, below_one}
use Rattle.pass_rules.proofs.value.product_from_one.Goals as goal

value_is : (e : PassEdge) (x : StoredEdge) → EdgeIs e x → e.num.value ≡ of_nat x.value
value_is e x p = ap (λ (k : PassEdge). k.num.value) p.is

decimals_are : (e : PassEdge) (x : StoredEdge) → EdgeIs e x → e.num.decimals ≡ x.decimals
decimals_are e x p = ap (λ (k : PassEdge). k.num.decimals) p.is

pub overflow_cast-l : goal.overflow_cast-l
overflow_cast-l c = let (x, p) = c.requires.0 in omega (arith, p.fits.decimals, decimals_are _ x p)

pub power_of_ten-one-requires : goal.power_of_ten-one-requires
power_of_ten-one-requires c = let (x, p) = c.requires.0 in omega (arith, p.fits.decimals, decimals_are _ x p)

pub exact_u64-requires : goal.exact_u64-requires
exact_u64-requires c = let (x, p) = c.requires.0 in (x.value, p.fits.small.value, value_is _ x p)

pub returns-then-one-exact_u64 : goal.returns-then-one-exact_u64
returns-then-one-exact_u64 c x y p q =
    let one_is : c.power_of_ten-one.result ≡ 10 ^ x.decimals = c.power_of_ten-one.ensures ∙ rw (decimals_are _ x p) in
    let digits_are : c.exact_u64.result ≡ x.value = c.exact_u64.ensures x.value p.fits.small.value (value_is _ x p) in
    let one : 10 ^ x.decimals ≤ x.value = rw (one_is, digits_are) at c.if-one-exact_u64.true in
    c.product.ensures x y p q ∙ ap (λ (b : Bool). over_answer b (x.value * y.value / 10 ^ x.decimals)) (from_one x y (le-leb _ _ one))

pub returns : goal.returns
returns c x y p q =
    let one_is : c.power_of_ten-one.result ≡ 10 ^ x.decimals = c.power_of_ten-one.ensures ∙ rw (decimals_are _ x p) in
    let digits_are : c.exact_u64.result ≡ x.value = c.exact_u64.ensures x.value p.fits.small.value (value_is _ x p) in
    let less : x.value < 10 ^ x.decimals = rw (one_is, digits_are) at c.if-one-exact_u64.false in
    rw (below_one x y (lt-leb _ _ less))

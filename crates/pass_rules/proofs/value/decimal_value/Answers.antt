-- `decimal_value` meets its contract, pass by pass. Assumes nothing.
use mathlib.Core.Path.{ap, ◌∙◌}
use mathlib.Core.Bool.{Bool}
use Prim.Native.Nat.{◌+◌, ◌*◌, ◌/◌, ◌^◌}
use Rattle.pass_list.specs.declared.record.PassEdge.{PassEdge}
use Rattle.pass_rules.specs.Over.{over_answer}
use Rattle.pass_rules.proofs.value.OverLaws.{one_fits, large_fits, sum_unfit, block_unfit}
use Rattle.pass_rules.proofs.value.decimal_value.Goals as goal

pub returns-in-D1 : goal.returns-in-D1
returns-in-D1 c x y p q h =
    rw c.in-D1.is
    (c.known.ensures (10 * x.value + y.value) (c.joined_value.ensures x.value y.value p.fits.small.value q.fits.small.value (ap (λ (k : PassEdge). k.num.value) p.is) (ap (λ (k : PassEdge). k.num.value) q.is)))

pub returns-in-G1 : goal.returns-in-G1
returns-in-G1 c x y p q h = rw c.in-G1.is (c.product_from_one.ensures x y p q ∙ ap (λ (b : Bool). over_answer b (x.value * y.value / 10 ^ x.decimals)) (one_fits x y h))

pub returns-in-G2 : goal.returns-in-G2
returns-in-G2 c x y p q h = rw (c.in-G2.is, sum_unfit x y h)

pub returns-in-G3 : goal.returns-in-G3
returns-in-G3 c x y p q h = rw c.in-G3.is (c.product.ensures x y p q ∙ ap (λ (b : Bool). over_answer b (x.value * y.value / 10 ^ x.decimals)) (large_fits x y h))

pub returns-in-G4 : goal.returns-in-G4
returns-in-G4 c x y p q h = rw (c.in-G4.is, block_unfit x y h)

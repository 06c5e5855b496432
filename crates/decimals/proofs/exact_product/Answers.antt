-- `decimals::exact_product` meets its contract: the divisor is the power of ten. Assumes nothing.
use mathlib.Core.Path.{ap, ◌∙◌}
use Prim.Native.Nat.{ℕ, ◌*◌}
use native.Mathlib.Omega.{arith}
use Rattle.wide.specs.Numbers.{exact_quotient}
use Rattle.decimals.proofs.PowerLaws.{power_positive, power_top}
use Rattle.decimals.proofs.exact_product.Goals as goal

pub exact-requires : goal.exact-requires
exact-requires c = (omega arith, omega arith, rw c.power_of_ten.ensures (power_positive _), rw c.power_of_ten.ensures (power_top (omega arith)))

pub returns : goal.returns
returns c =
    let a = c.args in
    c.exact.ensures ∙ ap (λ (d : ℕ). exact_quotient (a.digits * a.factor) d) c.power_of_ten.ensures

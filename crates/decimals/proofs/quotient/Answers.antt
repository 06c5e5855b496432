-- `decimals::quotient` meets its contract: the divisor is the f64 of the power of ten. Assumes nothing.
use mathlib.Core.Path.{◌≡◌}
use Prim.Native.Nat.{ℕ, ◌^◌}
use lib.Ieee.{Float, binary64, div}
use native.Mathlib.Omega.{arith}
use Rattle.whole.specs.Whole.{of_nat}
use Rattle.decimals.specs.Quotient.{quotient}
use Rattle.decimals.proofs.PowerLaws.{power_top}
use Rattle.decimals.proofs.quotient.Goals as goal

divided : (x y : Float) (n k d : ℕ) → y ≡ of_nat d → d ≡ 10 ^ k → x ≡ of_nat n → div binary64 x y ≡ quotient n k
unfolding quotient
divided x y n k d p q r = rw (p, q, r)

pub exact_f64-requires : goal.exact_f64-requires
exact_f64-requires c = rw c.power_of_ten.ensures (power_top (omega arith))

pub returns : goal.returns
returns c = λ n p. divided _ _ n _ _ c.exact_f64.ensures c.power_of_ten.ensures p

-- `whole::exact_u64` meets its contract: the f64 of n is n as an i64, and that is n. Assumes nothing.
use Rattle.std.proofs.Common.{T, ℤ, nat_abs, sym, ap, ◌∙◌, subst, arith, w64, Fits, to_z, of_z}
use lib.Signed.{non_neg}
use lib.Ieee.{Float, binary64, in_signed, to_signed}
use Rattle.whole.proofs.WholeLaws.{of_nat-to_signed, back_through_signed}
use Rattle.whole.proofs.exact_u64.Goals as goal

abbrev through : Float → ℤ
through x = to_z w64 (of_z w64 (to_signed 63 x))

pub float_to_int-result : goal.float_to_int-result
float_to_int-result c = let (n, h, e) = c.requires in subst (λ (x : Float). T (in_signed binary64 63 x)) (sym e) (of_nat-to_signed h).0

pub overflow_cast-result : goal.overflow_cast-result
overflow_cast-result c =
    let (n, h, e) = c.requires in
    subst (λ (z : ℤ). T (non_neg z) × Fits w64 (nat_abs z)) (sym (ap through e ∙ back_through_signed h)) (tt, record { fits = omega arith })

pub returns : goal.returns
returns c = λ n h e. ap nat_abs (ap through e ∙ back_through_signed h)

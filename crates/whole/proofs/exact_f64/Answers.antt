-- `whole::exact_f64` meets its contract: the number is the same as an i64, and an i64 up to TOP has its f64. Assumes nothing.
use Rattle.std.proofs.Common.{T, ℤ, sym, ap, subst}
use lib.Ieee.{binary64, of_int, in_float}
use Rattle.whole.specs.Whole.{of_nat}
use Rattle.whole.proofs.WholeLaws.{of_nat-in_float, signed_same}
use Rattle.whole.proofs.exact_f64.Goals as goal

pub int_to_float-result : goal.int_to_float-result
int_to_float-result c = subst (λ (z : ℤ). T (in_float binary64 z)) (sym (signed_same c.requires)) (of_nat-in_float c.requires)

pub returns : goal.returns
unfolding of_nat
returns c = ap (of_int binary64) (signed_same c.requires)

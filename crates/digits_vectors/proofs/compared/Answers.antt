-- `digits_vectors::compared` meets its contract: the test compares 68 starts at the most. Assumes nothing.
use mathlib.Core.Path.{ap}
use native.Mathlib.Omega.{arith}
use Rattle.digits.specs.declared.DigitTest.{DigitTest}
use Rattle.digits.proofs.Theorems.{count_bounds}
use Rattle.digits_vectors.proofs.compared.Goals as goal

pub returns : goal.returns
returns c = omega (arith, ap (λ (t : DigitTest). t.compared) c.is_digit.ensures, (count_bounds c.args.c).1)

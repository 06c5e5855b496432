-- `wide::sum` meets its contract. Assumes nothing.
use native.Mathlib.Omega.{arith}
use Rattle.wide.specs.Numbers.{wide_of}
use Rattle.wide.proofs.WideLaws.{wide_of_lem}
use Rattle.wide.proofs.sum.Goals as goal

pub overflow_add-low : goal.overflow_add-low
overflow_add-low c = omega arith

pub overflow_add-result : goal.overflow_add-result
overflow_add-result c = omega arith

pub overflow_add-result-2 : goal.overflow_add-result-2
overflow_add-result-2 c = omega arith

pub returns : goal.returns
unfolding wide_of
returns c = wide_of_lem _ _ _ (omega arith) (omega arith)

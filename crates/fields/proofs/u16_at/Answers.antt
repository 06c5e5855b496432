-- `fields::u16_at` meets its contract: two bytes are the two halves. Assumes nothing.
use Prim.Native.Nat.{◌+◌}
use native.Mathlib.Omega.{arith}
use Rattle.fields.proofs.FieldsLaws.{halves, le_at-one}
use mathlib.Core.Path.{sym}
use Rattle.fields.proofs.u16_at.Goals as goal

pub overflow_cast-lo : goal.overflow_cast-lo
overflow_cast-lo c = omega (arith, c.type_inv.s c.args.at)

pub overflow_cast-hi : goal.overflow_cast-hi
overflow_cast-hi c = omega (arith, c.type_inv.s (c.args.at + 1))

pub overflow_mul-result : goal.overflow_mul-result
overflow_mul-result c = omega (arith, c.type_inv.s (c.args.at + 1))

pub overflow_add-result : goal.overflow_add-result
overflow_add-result c = omega (arith, c.type_inv.s c.args.at, c.type_inv.s (c.args.at + 1))

pub returns : goal.returns
returns c = halves _ _ 1 (omega arith) (sym (le_at-one _ _ (omega arith))) (sym (le_at-one _ _ (omega arith)))

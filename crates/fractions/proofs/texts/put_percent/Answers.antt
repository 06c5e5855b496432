-- `fractions::texts::put_percent` meets its contract: the number, and a byte behind it. Assumes nothing.
use native.Mathlib.Omega.{arith}
use mathlib.Core.Path.{refl, ◌∙◌}
use native.Mathlib.Nat.{zero-add}
use Rattle.whole.specs.Decimal.{decimal}
use Rattle.whole.proofs.DecimalLaws.{length_decimal_u64}
use Rattle.fractions.proofs.texts.TextLaws.{text_byte}
use Rattle.fractions.proofs.texts.put_percent.Goals as goal

pub put_decimal-end-requires : goal.put_decimal-end-requires
put_decimal-end-requires c = omega (arith, length_decimal_u64 c.args.value c.ranges.value.fits)

pub bounds-buf-end : goal.bounds-buf-end
bounds-buf-end c = omega (arith, length_decimal_u64 c.args.value c.ranges.value.fits, c.put_decimal-end.ensures.next)

pub overflow_add-result : goal.overflow_add-result
overflow_add-result c = omega (arith, length_decimal_u64 c.args.value c.ranges.value.fits, c.put_decimal-end.ensures.next)

pub returns : goal.returns
returns c = let d = length_decimal_u64 c.args.value c.ranges.value.fits in text_byte c.args.buf.now (decimal c.args.value) 37 c.put_decimal-end.ensures.written (c.put_decimal-end.ensures.next ∙ zero-add _) refl (omega arith) (omega arith)

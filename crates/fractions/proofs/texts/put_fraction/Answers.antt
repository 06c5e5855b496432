-- `fractions::texts::put_fraction` meets its contract: the right number, a byte, and the left number behind it. Assumes nothing.
use native.Mathlib.Omega.{arith}
use mathlib.Core.Path.{refl, ◌∙◌}
use native.Mathlib.Nat.{zero-add}
use Rattle.whole.specs.Decimal.{decimal}
use Rattle.whole.proofs.DecimalLaws.{length_decimal_u64}
use Rattle.fractions.proofs.texts.TextLaws.{text_two}
use Rattle.fractions.proofs.texts.put_fraction.Goals as goal

pub put_decimal-n-requires : goal.put_decimal-n-requires
put_decimal-n-requires c = omega (arith, length_decimal_u64 c.args.right c.ranges.right.fits)

pub bounds-buf-n : goal.bounds-buf-n
bounds-buf-n c = omega (arith, length_decimal_u64 c.args.right c.ranges.right.fits, c.put_decimal-n.ensures.next)

pub overflow_add-n : goal.overflow_add-n
overflow_add-n c = omega (arith, length_decimal_u64 c.args.right c.ranges.right.fits, c.put_decimal-n.ensures.next)

pub put_decimal-requires : goal.put_decimal-requires
put_decimal-requires c = omega (arith, length_decimal_u64 c.args.right c.ranges.right.fits, length_decimal_u64 c.args.left c.ranges.left.fits, c.put_decimal-n.ensures.next)

pub returns : goal.returns
returns c =
    let d = length_decimal_u64 c.args.right c.ranges.right.fits in
    let e = length_decimal_u64 c.args.left c.ranges.left.fits in
    text_two c.args.buf.now (decimal c.args.right) (decimal c.args.left) 47 c.put_decimal-n.ensures.written (c.put_decimal-n.ensures.next ∙ zero-add _) refl c.put_decimal.ensures.written c.put_decimal.ensures.next (omega arith) (omega arith)

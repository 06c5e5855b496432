-- `whole_vectors::show` is safe: the text of a u64 has at most 20 bytes. Assumes nothing.
use native.Mathlib.Omega.{arith}
use mathlib.Core.Path.{sym}
use lib.Seq.{length-take-le}
use Rattle.whole.proofs.DecimalLaws.{length_decimal_u64}
use Rattle.whole_vectors.proofs.show.Goals as goal

pub put_decimal-end-requires : goal.put_decimal-end-requires
put_decimal-end-requires c = omega (arith, length_decimal_u64 c.args.n (omega arith))

pub overflow_add-line : goal.overflow_add-line
overflow_add-line c = omega (arith, length_decimal_u64 c.args.n (omega arith))

pub slice_bounds-line-end : goal.slice_bounds-line-end
slice_bounds-line-end c = omega (arith, c.put_decimal-end.auto.out, length_decimal_u64 c.args.n (omega arith))

pub slice_bounds-write_all-end : goal.slice_bounds-write_all-end
slice_bounds-write_all-end c = sym (length-take-le _ _ (omega (arith, c.put_decimal-end.auto.out, length_decimal_u64 c.args.n (omega arith))))

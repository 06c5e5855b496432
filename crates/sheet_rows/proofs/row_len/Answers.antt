-- `sheet_rows::row_len` meets its contract: a u64 has at most 20 digits. Assumes nothing.
use native.Mathlib.Omega.{arith}
use Rattle.whole.proofs.DecimalLaws.{length_decimal_u64}
use Rattle.sheet_rows.proofs.row_len.Goals as goal

pub overflow_add-result : goal.overflow_add-result
overflow_add-result c = omega (arith, length_decimal_u64 c.args.value c.ranges.value.fits, c.decimal_len.ensures)

pub overflow_add-result-2 : goal.overflow_add-result-2
overflow_add-result-2 c = omega (arith, length_decimal_u64 c.args.value c.ranges.value.fits, c.decimal_len.ensures)

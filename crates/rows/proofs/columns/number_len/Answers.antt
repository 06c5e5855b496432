-- `rows::columns::number_len` meets its contract: a u64 has at most 20 digits. Assumes nothing.
use native.Mathlib.Omega.{arith}
use Rattle.whole.proofs.DecimalLaws.{length_decimal_u64}
use Rattle.rows.proofs.columns.number_len.Goals as goal

pub overflow_add-result : goal.overflow_add-result
overflow_add-result c = omega (arith, length_decimal_u64 c.args.n c.ranges.n.fits, c.decimal_len.ensures)

pub returns : goal.returns
returns c = let l = length_decimal_u64 c.args.n c.ranges.n.fits in (omega arith, omega arith)

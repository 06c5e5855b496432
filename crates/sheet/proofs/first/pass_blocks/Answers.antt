use Prim.Native.Nat.{◌+◌, ◌*◌}
use mathlib.Core.Path.{refl}
use native.Mathlib.Omega.{arith}
use Rattle.sheet_counts.proofs.CountLaws.{rows_in_le}
use Rattle.sheet.proofs.NumberedLaws.{at_front}
use Rattle.sheet.proofs.CodeLaws.{at_three, at_block}
use Rattle.sheet.proofs.first.pass_blocks.Goals as goal

pub returns-then-position-lt-SHORT_ROWS : goal.returns-then-position-lt-SHORT_ROWS
returns-then-position-lt-SHORT_ROWS c = record { inside = omega arith; before = omega arith; few = omega arith; there = at_front }

pub loop-block-init : goal.loop-block-init
loop-block-init c = (refl, omega arith, omega arith, at_three)

pub overflow_add-rows : goal.overflow_add-rows
overflow_add-rows c = omega (arith, c.rows_in-n.ensures, rows_in_le 1024 (272 + 1024 * c.loop-block.block))

pub loop-block-preserved : goal.loop-block-preserved
loop-block-preserved c = (omega arith, omega arith, omega (arith, rows_in_le 1024 (272 + 1024 * c.loop-block.block)), at_block c.loop-block.block c.loop-block.index c.loop-block.rows _ (omega arith) c.loop-block.invariant.0 c.rows_in-n.ensures c.loop-block.invariant.3)

-- `sheet_counts::rows_in_lem` meets its contract, by a test of the whole table. Assumes nothing.
use native.Mathlib.Omega.{arith}
use Rattle.sheet_counts.proofs.CountLaws.{first_blocks, alike_blocks, last_blocks}
use Rattle.sheet_counts.proofs.rows_in.Goals as goal

pub returns-then-block-lt12 : goal.returns-then-block-lt12
returns-then-block-lt12 c = first_blocks _ (omega (arith, c.if-block-lt12.true))

pub returns-then-block-lt40 : goal.returns-then-block-lt40
returns-then-block-lt40 c = alike_blocks _ (omega (arith, c.if-block-lt12.false)) (omega (arith, c.if-block-lt40.true))

pub returns : goal.returns
returns c = last_blocks _ (omega (arith, c.if-block-lt40.false)) c.requires

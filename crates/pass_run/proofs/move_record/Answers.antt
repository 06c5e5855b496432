-- `move_record` meets its contract: with as many chains as edges nothing is written. Assumes nothing.
use native.Mathlib.Omega.{arith}
use Rattle.pass_run.proofs.RunLaws.{ended_stands, ended_moved}
use Rattle.pass_run.proofs.move_record.Goals as goal

pub overflow_mul-k : goal.overflow_mul-k
overflow_mul-k c = omega (arith, c.if-k-i.true, c.requires.1, c.well_formed)

pub overflow_mul-i : goal.overflow_mul-i
overflow_mul-i c = omega (arith, c.requires.1, c.well_formed)

pub copy_record-requires : goal.copy_record-requires
copy_record-requires c = (omega (arith, c.if-k-i.true), omega (arith, c.requires.1))

pub shape_of-list : goal.shape_of-list
shape_of-list c = c.copy_record.auto.list

pub returns-then-k-i : goal.returns-then-k-i
returns-then-k-i c = ended_moved _ _ _ c.if-k-i.true c.requires.1 c.copy_record.ensures

pub returns-else-k-i : goal.returns-else-k-i
returns-else-k-i c = ended_stands _ _ _ (omega (arith, c.if-k-i.false, c.requires.0))

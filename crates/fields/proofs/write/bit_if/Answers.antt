-- `fields::write::bit_if` meets its contract. Assumes nothing.
use native.Mathlib.Omega.{arith}
use Rattle.fields.proofs.write.bit_if.Goals as goal

pub returns-then-there : goal.returns-then-there
returns-then-there c = (rw c.if-there.true (omega arith), omega arith)

pub returns-else-there : goal.returns-else-there
returns-else-there c = (rw c.if-there.false (omega arith), omega arith)

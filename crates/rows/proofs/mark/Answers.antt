-- `rows::mark` meets its contract: by bit 0, then bit 7. Assumes nothing.
use Rattle.std.proofs.Common.{ap, not}
use Rattle.rows.proofs.RowsLaws.{mark_regular, mark_active, mark_inactive}
use Rattle.rows.proofs.mark.Goals as goal

pub returns-then-not-bit : goal.returns-then-not-bit
returns-then-not-bit c = mark_regular c.args.map _ c.bit.ensures (ap not c.if-not-bit.true)

pub returns-then-bit : goal.returns-then-bit
returns-then-bit c = mark_active c.args.map _ c.bit.ensures (ap not c.if-not-bit.false) _ c.bit-2.ensures c.if-bit.true

pub returns-else-bit : goal.returns-else-bit
returns-else-bit c = mark_inactive c.args.map _ c.bit.ensures (ap not c.if-not-bit.false) _ c.bit-2.ensures c.if-bit.false

-- `number_if` meets its contract: a number that is there is `u64_at`'s.
use Rattle.table.proofs.record.known.number_if.Goals as goal

pub u64_at-requires : goal.u64_at-requires
u64_at-requires c = c.requires c.if-there.true

pub returns-then-there : goal.returns-then-there
returns-then-there c = rw c.if-there.true c.u64_at.ensures

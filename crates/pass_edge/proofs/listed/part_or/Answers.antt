-- `pass_edge::listed::part_or` meets its contract. Assumes nothing.
use Rattle.pass_edge.proofs.listed.part_or.Goals as goal

pub returns-then-there : goal.returns-then-there
returns-then-there c = rw c.if-there.true

pub returns-else-there : goal.returns-else-there
returns-else-there c = rw c.if-there.false

-- `next_of_chain` meets its contract. Assumes nothing.
use Rattle.pass_run.proofs.look.FilterLaws.{answer_ends}
use Rattle.pass_run.proofs.next_of_chain.Goals as goal

pub may_take-requires : goal.may_take-requires
may_take-requires c = c.requires.1

pub read_edge-requires : goal.read_edge-requires
read_edge-requires c = (c.requires.1, c.requires.2)

pub join-requires : goal.join-requires
join-requires c = (c.requires.0, (_, c.read_edge.ensures))

pub returns-then-may_take : goal.returns-then-may_take
returns-then-may_take c x e = c.join.ensures x _ e c.read_edge.ensures

pub returns : goal.returns
returns c x e = answer_ends _ _ _ (c.may_take.ensures x e.is) c.if-may_take.false

-- `step` meets its contract. Assumes nothing.
use native.Mathlib.Omega.{arith}
use Rattle.pass_run.specs.Run.{RunIs}
use Rattle.pass_run.proofs.RunLaws.{small_one}
use Rattle.pass_run.proofs.step.Goals as goal

pub is_own_chain-requires : goal.is_own_chain-requires
is_own_chain-requires c = (c.requires.1, c.requires.2)

pub move_record-requires : goal.move_record-requires
move_record-requires c = (c.requires.0, omega (arith, c.requires.1, c.requires.2))

pub overflow_add-result : goal.overflow_add-result
overflow_add-result c = omega (arith, c.requires.1, c.ranges.n)

pub shape_of-list-then-is_own_chain : goal.shape_of-list-then-is_own_chain
shape_of-list-then-is_own_chain c = c.move_record.auto.list

pub returns-then-is_own_chain : goal.returns-then-is_own_chain
unfolding RunIs
returns-then-is_own_chain c = record { over = _; first = c.is_own_chain.ensures c.if-is_own_chain.true; small = small_one _ _ _ _ (omega arith) c.requires.1 c.requires.3; ended = c.move_record.ensures }

pub run_chain-requires : goal.run_chain-requires
run_chain-requires c = c.requires

pub shape_of-list : goal.shape_of-list
shape_of-list c = c.run_chain.auto.list

pub returns : goal.returns
returns c = c.run_chain.ensures

-- `is_own_chain` meets its contract. Assumes nothing.
use native.Mathlib.Omega.{arith}
use borrow.Author.Tests.{not-true}
use Rattle.pass_run.proofs.look.FilterLaws.{next_none}
use Rattle.pass_run.proofs.RunLaws.{first_alone}
use Rattle.pass_run.proofs.is_own_chain.Goals as goal

pub overflow_add-i : goal.overflow_add-i
overflow_add-i c = omega (arith, c.requires.0, c.ranges.n)

pub overflow_mul-i : goal.overflow_mul-i
overflow_mul-i c = omega (arith, c.requires.0, c.requires.1, c.well_formed)

pub overflow_add-i-then-i-n : goal.overflow_add-i-then-i-n
overflow_add-i-then-i-n c = omega (arith, c.if-i-n.true, c.ranges.n)

pub overflow_mul-i-then-i-n : goal.overflow_mul-i-then-i-n
overflow_mul-i-then-i-n c = omega (arith, c.if-i-n.true, c.requires.1, c.well_formed)

pub may_join-requires : goal.may_join-requires
may_join-requires c = (omega (arith, c.requires.0, c.requires.1), omega (arith, c.if-i-n.true, c.requires.1))

pub returns-then-i-n : goal.returns-then-i-n
returns-then-i-n c r = first_alone _ _ _ _ c.requires.0 (λ h. next_none _ _ _ c.may_join.ensures (not-true _ r))

pub returns : goal.returns
returns c r = first_alone _ _ _ _ c.requires.0 (λ h. absurd (omega (arith, h, c.if-i-n.false)))

-- `run_pass` meets its contract. Assumes nothing.
use native.Mathlib.Omega.{arith}
use Rattle.std.proofs.lemmas.Result.{err_from_is_err_and}
use Rattle.pass_run.proofs.RunLaws.{ran_to, ran_above, begins, goes_on, stops, finishes}
use Rattle.pass_run.proofs.run_pass.Goals as goal

pub loop-i-init : goal.loop-i-init
loop-i-init c = begins _ _ _ c.requires.1

pub returns-in_err-i : goal.returns-in_err-i
returns-in_err-i c =
    let w = err_from_is_err_and c.from_residual.result c.from_residual.ensures.1 in
    rw (w.1, w.2) (stops _ _ _ _ _ _ c.loop-i.invariant _ _ (ran_above _ _ _ _ _ _ c.step.ensures c.in_err-i.was))

pub loop-i-smaller : goal.loop-i-smaller
loop-i-smaller c = let r = ran_to _ _ _ _ _ _ c.step.ensures c.in_ok-i.was in omega (arith, r.first.later, r.first.inside)

pub loop-i-preserved : goal.loop-i-preserved
loop-i-preserved c = goes_on _ _ _ _ _ _ c.loop-i.invariant _ _ c.step.auto.list (ran_to _ _ _ _ _ _ c.step.ensures c.in_ok-i.was)

pub returns : goal.returns
returns c = finishes _ _ _ _ _ _ c.loop-i.invariant c.loop-i-test.false

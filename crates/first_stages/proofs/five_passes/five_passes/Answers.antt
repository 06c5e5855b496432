use native.Mathlib.Omega.{arith}
use Rattle.std.proofs.lemmas.Result.{err_from_is_err_and}
use Rattle.first_stages.proofs.five_passes.FiveLaws.{going_start, going_above, going_next, going_end}
use Rattle.first_stages.proofs.five_passes.five_passes.Goals as goal

pub loop-i-init : goal.loop-i-init
loop-i-init c = going_start c.requires.4

pub one_pass-requires : goal.one_pass-requires
one_pass-requires c =
    let i = c.loop-i.invariant in
    let d = i.holds c.requires.0.0 c.requires.0.1 in
    ((d.0, d.1), c.requires.1, c.requires.2, omega (arith, c.requires.3, i.long), i.list, c.loop-i-test.true)

pub returns-in_err-grown : goal.returns-in_err-grown
returns-in_err-grown c =
    let w = err_from_is_err_and c.from_residual.result c.from_residual.ensures.1 in
    rw (w.1, w.2) (going_above c.loop-i.invariant c.loop-i-test.true c.one_pass.new.work _ _ c.in_err-grown.ensures)

pub loop-i-preserved : goal.loop-i-preserved
loop-i-preserved c = going_next c.loop-i.invariant c.loop-i-test.true c.one_pass.new.work _ _ c.one_pass.auto.work c.in_ok-grown.ensures

pub returns : goal.returns
returns c = going_end c.loop-i.invariant c.loop-i-test.false c.loop-i.auto.i-end

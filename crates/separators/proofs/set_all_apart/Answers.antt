use Rattle.separators.proofs.StepLaws.{setting_start, setting_here, setting_next, setting_end}
use Rattle.separators.proofs.set_all_apart.Goals as goal

pub loop-i-init : goal.loop-i-init
loop-i-init c = setting_start _ _ _ _

pub set_apart-grown-requires : goal.set_apart-grown-requires
set_apart-grown-requires c =
    let d = setting_here c.loop-i.invariant c.loop-i-test.true c.requires.0 c.requires.2.0 c.requires.1 c.requires.2.1 c.requires.2.2 c.requires.2.3 in
    (c.requires.0, c.requires.1, d)

pub loop-i-preserved : goal.loop-i-preserved
loop-i-preserved c = setting_next c.loop-i.invariant c.loop-i-test.true c.set_apart-grown.auto.work c.set_apart-grown.ensures.0 c.set_apart-grown.ensures.1

pub shape_of-work : goal.shape_of-work
shape_of-work c = c.loop-i.invariant.long

pub returns : goal.returns
returns c = (c.loop-i.invariant.frame, setting_end c.loop-i.invariant c.loop-i-test.false)

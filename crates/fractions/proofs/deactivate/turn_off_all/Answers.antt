use Rattle.fractions.proofs.deactivate.TurnedLaws.{turned_start, turned_next, turned_more, turned_ends}
use Rattle.fractions.proofs.deactivate.turn_off_all.Goals as goal

pub loop-p-init : goal.loop-p-init
loop-p-init c = turned_start _ _ _ _

pub turn_off_used-requires : goal.turn_off_used-requires
turn_off_used-requires c = (turned_next c.loop-p.invariant c.loop-p-test.true c.requires.0.1 c.requires.0.2, c.requires.1)

pub loop-p-preserved : goal.loop-p-preserved
loop-p-preserved c = turned_more c.loop-p.invariant c.loop-p-test.true {u = c.turn_off_used.new.work} c.turn_off_used.auto.work c.turn_off_used.ensures.0 c.turn_off_used.ensures.1

pub shape_of-work : goal.shape_of-work
shape_of-work c = c.loop-p.invariant.long

pub returns : goal.returns
returns c = let i = c.loop-p.invariant in (i.frame, turned_ends i c.loop-p-test.false)

use lib.ListN.{length-set}
use Rattle.fields.proofs.PartLaws.{copy_turn}
use Rattle.fields.proofs.copy.copy_in.Goals as goal

pub loop-i-preserved : goal.loop-i-preserved
loop-i-preserved c = (simp length-set c.loop-i.invariant.0, copy_turn _ _ _ _ c.loop-i-test.true c.loop-i.invariant.1)

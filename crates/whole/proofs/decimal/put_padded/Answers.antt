use Rattle.whole.proofs.DecimalLaws.{stored_none, stored_more, stored_all}
use Rattle.whole.proofs.decimal.put_padded.Goals as goal

pub loop-i-init : goal.loop-i-init
loop-i-init c = stored_none _ _ _ _

pub loop-i-preserved : goal.loop-i-preserved
loop-i-preserved c = stored_more c.loop-i-test.true c.loop-i.invariant

pub returns : goal.returns
returns c = stored_all c.loop-i-test.false c.loop-i.invariant

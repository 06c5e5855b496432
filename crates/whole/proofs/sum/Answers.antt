-- `whole::sum` meets its contract: the f64 sum is the f64 of the whole sum. Assumes nothing.
use Rattle.whole.proofs.WholeLaws.{of_nat-add}
use Rattle.std.proofs.Common.{◌+◌}
use Rattle.whole.proofs.sum.Goals as goal

pub returns : goal.returns
returns c = λ m n h k p q. c.fit.ensures (m + n) (rw (p, q) (of_nat-add h k))

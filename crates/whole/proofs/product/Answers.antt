-- `whole::product` meets its contract: the f64 product is the f64 of the whole product. Assumes nothing.
use Rattle.whole.proofs.WholeLaws.{of_nat-mul}
use Rattle.std.proofs.Common.{◌*◌}
use Rattle.whole.proofs.product.Goals as goal

pub returns : goal.returns
returns c = λ m n h k p q. c.fit.ensures (m * n) (rw (p, q) (of_nat-mul h k))

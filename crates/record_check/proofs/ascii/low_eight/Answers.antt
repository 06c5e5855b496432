-- `record_check::ascii::low_eight` meets its contract: the mask finds the highest bits.
use borrow.Author.Tests.{eqb-true}
use Rattle.record_check.proofs.ascii.MaskLaws.{eight_low}
use Rattle.record_check.proofs.ascii.low_eight.Goals as goal

pub returns : goal.returns
returns c = λ e. eight_low _ _ c.requires.bytes c.requires.at_in_bounds c.u64_at.ensures (eqb-true _ _ e)

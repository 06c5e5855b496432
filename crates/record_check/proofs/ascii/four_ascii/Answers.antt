-- `record_check::ascii::four_ascii` meets its contract: the mask finds the highest bits.
use borrow.Author.Tests.{eqb-true}
use Rattle.record_check.proofs.ascii.MaskLaws.{four_low}
use Rattle.record_check.proofs.ascii.four_ascii.Goals as goal

pub returns : goal.returns
returns c = λ e. four_low _ _ c.requires.bytes c.requires.at_in_bounds c.u32_at.ensures (eqb-true _ _ e)

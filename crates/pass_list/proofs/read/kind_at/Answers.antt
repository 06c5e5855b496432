-- `kind_at` meets its contract. Assumes nothing.
use Rattle.pass_list.proofs.read.FieldLaws.{kind_read}
use Rattle.pass_list.proofs.read.kind_at.Goals as goal

pub returns : goal.returns
returns c = kind_read _ _ c.u16_at.ensures c.from.ensures

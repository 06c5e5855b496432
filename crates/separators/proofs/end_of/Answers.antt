-- `separators::end_of` meets its contract: edges stand one behind the other. Assumes nothing.
use Rattle.separators.proofs.StepLaws.{last_ends}
use Rattle.separators.proofs.end_of.Goals as goal

pub returns : goal.returns
returns c = λ es q. last_ends q c.requires.1 _ c.if-i-lattice.false

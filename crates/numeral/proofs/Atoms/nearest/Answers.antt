-- `Atoms::nearest` meets its contract, by its test.
use Rattle.numeral.proofs.StateLaws.{passed, not_passed}
use Rattle.numeral.proofs.Atoms.nearest.Goals as goal

pub returns-then-self : goal.returns-then-self
returns-then-self c = passed _ _ c.if-self.true

pub returns : goal.returns
returns c = not_passed _ _ c.if-self.false

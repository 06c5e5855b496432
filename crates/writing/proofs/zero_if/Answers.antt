-- `writing::zero_if` meets its contract, by the test. Assumes nothing.
use Rattle.writing.proofs.CodeLaws.{zero_mark}
use Rattle.writing.proofs.zero_if.Goals as goal

pub returns : goal.returns
returns c = rw c.then_some.ensures (zero_mark c.args.b)

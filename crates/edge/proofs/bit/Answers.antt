-- `edge::bit` meets its contract: its test is the definition's. Assumes nothing.
use mathlib.Core.Path.{refl}
use Rattle.edge.proofs.bit.Goals as goal

pub returns : goal.returns
returns c = refl

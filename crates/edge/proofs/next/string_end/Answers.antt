-- `edge::next::string_end` meets its contract: a u16 is below 65536. Assumes nothing.
use Rattle.edge.specs.Layout.{string_end}
use native.Mathlib.Omega.{arith}
use Rattle.edge.proofs.next.string_end.Goals as goal

pub returns : goal.returns
unfolding string_end
returns c = (omega arith, omega arith)

-- `edge::script_at` meets its contract: the widths of the numbers whose bits stand. Assumes nothing.
use Rattle.edge.specs.Layout.{script_at}
use native.Mathlib.Omega.{arith}
use Rattle.edge.proofs.script_at.Goals as goal

pub returns : goal.returns
unfolding script_at
returns c = (omega arith, omega arith)

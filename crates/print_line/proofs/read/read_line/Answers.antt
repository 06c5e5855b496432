use mathlib.Core.Path.{refl}
use native.Mathlib.Omega.{arith}
use Rattle.print_line.proofs.read.LineLaws.{no_byte}
use Rattle.print_line.proofs.read.read_line.Goals as goal

pub loop-n-init : goal.loop-n-init
loop-n-init g c = (omega arith, refl, no_byte c.args.buf.now)

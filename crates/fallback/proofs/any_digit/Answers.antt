use mathlib.Core.Path.{refl}
use native.Mathlib.Omega.{arith}
use Rattle.fallback.proofs.WalkLaws.{any_next, any_end}
use Rattle.fallback.proofs.any_digit.Goals as goal

pub loop-b-init : goal.loop-b-init
loop-b-init c = refl

pub loop-b-preserved : goal.loop-b-preserved
loop-b-preserved c = let h = any_next c.args.line.now c.loop-b.found c.loop-b.b-index c.loop-b.invariant (omega arith) in rw c.is_ascii_digit-found.ensures.value (grind (arith, h))

pub returns : goal.returns
returns c = any_end _ c.loop-b.found c.loop-b.b-index c.loop-b.invariant (omega arith)

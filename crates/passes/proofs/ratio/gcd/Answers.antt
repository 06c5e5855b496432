use mathlib.Core.Path.{refl, sym, ◌∙◌}
use native.Mathlib.Omega.{arith}
use native.Mathlib.Nat.{mod-lt}
use Rattle.passes.proofs.ratio.RatioLaws.{gcd_turn, gcd_ends}
use Rattle.passes.proofs.ratio.gcd.Goals as goal

pub loop-b-init : goal.loop-b-init
loop-b-init c = refl

pub loop-b-smaller : goal.loop-b-smaller
loop-b-smaller c = mod-lt c.loop-b.a c.loop-b-test.true

pub loop-b-preserved : goal.loop-b-preserved
loop-b-preserved c = gcd_turn c.loop-b.a c.loop-b.b c.loop-b-test.true ∙ c.loop-b.invariant

pub returns : goal.returns
returns c = sym (gcd_ends c.loop-b.a c.loop-b.b (omega (arith, c.loop-b-test.false))) ∙ c.loop-b.invariant

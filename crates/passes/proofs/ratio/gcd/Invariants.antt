-- `passes::ratio::gcd` meets its contract. The loop's invariant: the two numbers have the divisor of the first two. The measure is the second number.
-- Assumes nothing.
use mathlib.Core.Path.{◌≡◌}
use Rattle.passes.specs.Characters as Characters
use Rattle.passes.proofs.ratio.gcd.Given as goal

abbrev pub invariant-loop-b : goal.invariant-loop-b
invariant-loop-b l = Characters.gcd l.a l.b ≡ Characters.gcd l.n l.d

abbrev pub decreases-loop-b : goal.decreases-loop-b
decreases-loop-b l = l.b

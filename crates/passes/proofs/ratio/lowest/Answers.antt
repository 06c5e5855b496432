-- `passes::ratio::lowest` meets its contract: both parts are divided by their greatest common divisor, which is not 0. Assumes nothing.
use Rattle.passes.specs.Characters as Characters
use Rattle.passes.proofs.ratio.RatioLaws.{gcd_positive}
use Rattle.passes.proofs.ratio.lowest.Goals as goal

pub nonzero_div-result : goal.nonzero_div-result
nonzero_div-result c = rw c.gcd-g.ensures (gcd_positive _ _ c.requires)

pub nonzero_div-result-2 : goal.nonzero_div-result-2
nonzero_div-result-2 c = rw c.gcd-g.ensures (gcd_positive _ _ c.requires)

pub returns : goal.returns
unfolding Characters.lowest
returns c = rw c.gcd-g.ensures

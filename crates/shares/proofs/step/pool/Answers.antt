-- `shares::step::pool` meets its contract: the listed fraction goes to lowest terms first, which the sum does not see. Assumes nothing.
use mathlib.Core.Path.{ap, ◌∙◌}
use Rattle.shares.specs.Pool as Pool
use Rattle.shares.specs.Answers.{fraction_of, pooled}
use Rattle.shares.proofs.AddLaws.{reduced_lowest, pool_lowest}
use Rattle.shares.proofs.step.pool.Goals as goal

pub add-requires : goal.add-requires
add-requires c = (c.requires.0, reduced_lowest _ _ _ c.lowest.ensures c.requires.1 c.requires.2 c.requires.3)

pub returns : goal.returns
returns c = c.add.ensures ∙ ap pooled (ap (Pool.pool (fraction_of c.args.sum)) c.lowest.ensures ∙ pool_lowest _ _ _ c.requires.0.positive c.requires.3)

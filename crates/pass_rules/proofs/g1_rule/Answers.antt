-- `g1_rule` meets its contract: the tests are those of the definition. Assumes nothing.
use Rattle.pass_list.specs.StoredPass.{g1_rule}
use Rattle.pass_rules.proofs.g1_rule.Goals as goal

pub returns : goal.returns
unfolding g1_rule
returns c x y m l v b g = rw (m, l, v, b, g)

-- `g4_rule` meets its contract: the tests are those of the definition. Assumes nothing.
use Rattle.pass_list.specs.StoredPass.{g4_rule}
use Rattle.pass_rules.proofs.g4_rule.Goals as goal

pub returns : goal.returns
unfolding g4_rule
returns c x y m l v b = rw (m, l, v, b)

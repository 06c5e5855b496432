-- `d1_rule` meets its contract: the tests are those of the definition. Assumes nothing.
use Rattle.pass_list.specs.StoredPass.{d1_rule}
use Rattle.pass_rules.proofs.d1_rule.Goals as goal

pub returns : goal.returns
unfolding d1_rule
returns c x y m l v = rw (m, l, v)

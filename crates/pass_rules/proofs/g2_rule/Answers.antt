-- `g2_rule` meets its contract: where a base is there to be compared, the tests are those of the definition; otherwise the next has to be a gap. Assumes nothing.
use mathlib.Core.Path.{sym, ◌∙◌}
use mathlib.Core.Bool.{◌&&◌}
use lib.Dec.{ltb}
use Rattle.pass_list.specs.StoredPass.{g2_rule, comparable}
use Rattle.std.proofs.Math.Bool.{or-false}
use Rattle.pass_rules.proofs.chain.ChainLaws.{near_there, near_none}
use Rattle.pass_rules.proofs.g2_rule.Goals as goal
use Rattle.pass_rules.proofs.g2_rule.Goals.{in-Some, in-None}

pub returns : goal.returns
unfolding g2_rule
returns c x y m n v b g =
    elim c.match-near.branch [
      | in-Some w ↦ let t = near_there (comparable x y) x.near _ (sym w.in-Some.is ∙ n) in rw (w.joins-is, m, v, b, t.0, t.1, or-false (ltb y.value x.near && ltb y.base x.near))
      | in-None w ↦ let t = near_none (comparable x y) x.near (sym w.in-None.is ∙ n) in rw (w.joins-is, m, g, t)
    ]

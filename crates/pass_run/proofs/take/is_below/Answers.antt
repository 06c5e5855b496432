-- `is_below` meets its contract. Assumes nothing.
use mathlib.Core.Path.{sym, ◌∙◌}
use Rattle.pass_rules.proofs.chain.ChainLaws.{near_there, near_none}
use Rattle.pass_run.proofs.take.is_below.Goals as goal

pub returns-in-Some : goal.returns-in-Some
returns-in-Some c x n = let t = near_there x.has_near x.near _ (sym c.in-Some.is ∙ n) in rw (t.0, t.1)

pub returns-in-None : goal.returns-in-None
returns-in-None c x n = rw (near_none x.has_near x.near (sym c.in-None.is ∙ n))

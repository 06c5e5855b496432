-- `pass_run::nth::pass_of` meets its contract: what is below 5 and none of the four numbers before it is 4. Assumes nothing.
use mathlib.Core.Path.{◌≡◌, sym, ap}
use native.Mathlib.Omega.{arith}
use Rattle.pass_run.specs.Nth.{nth}
use Rattle.pass_run.proofs.nth.pass_of.Goals as goal

pub returns-in-0 : goal.returns-in-0
returns-in-0 c = sym (ap nth c.in-0.is)

pub returns-in-1 : goal.returns-in-1
returns-in-1 c = sym (ap nth c.in-1.is)

pub returns-in-2 : goal.returns-in-2
returns-in-2 c = sym (ap nth c.in-2.is)

pub returns-in-3 : goal.returns-in-3
returns-in-3 c = sym (ap nth c.in-3.is)

pub returns-in_default : goal.returns-in_default
returns-in_default c = let e : c.args.i ≡ 4 = omega (arith, c.requires) in sym (ap nth e)

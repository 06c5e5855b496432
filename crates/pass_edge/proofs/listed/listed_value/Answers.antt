-- `pass_edge::listed::listed_value` meets its contract. Assumes nothing.
use mathlib.Core.Path.{◌∙◌}
use Rattle.pass_edge.proofs.listed.FieldLaws.{divided_is}
use Rattle.pass_edge.proofs.listed.listed_value.Goals as goal

pub returns : goal.returns
returns c = let (n, is) = c.requires.0 in c.quotient.ensures n is ∙ divided_is _ n is c.if-decimals-eq0.false

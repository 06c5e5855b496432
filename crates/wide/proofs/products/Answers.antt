-- `wide::products` meets its contract. Assumes nothing.
use mathlib.Core.Path.{◌∙◌}
use Rattle.wide.proofs.WideLaws.{value_of, parts_product}
use Rattle.wide.proofs.products.Goals as goal

pub sum-requires : goal.sum-requires
sum-requires c = (rw c.product.ensures (parts_product _ _ c.requires.0 c.requires.1), rw c.product-2.ensures (parts_product _ _ c.requires.2 c.requires.3))

pub returns : goal.returns
returns c = c.sum.ensures ∙ rw (value_of _ c.product.ensures, value_of _ c.product-2.ensures)

-- `edge_write::numeric::text_past_if` meets its contract, by whether the bit stands. Assumes nothing.
use Rattle.edge.proofs.LayoutLaws.{if_on, if_off}
use native.Mathlib.Omega.{arith}
use mathlib.Core.Path.{refl, sym, ◌∙◌}
use Rattle.edge_write.proofs.numeric.text_past_if.Goals as goal

pub returns-then-bit : goal.returns-then-bit
returns-then-bit c = (if_on _ _ _ (sym c.bit.ensures ∙ c.if-bit.true) refl, omega arith)

pub returns-else-bit : goal.returns-else-bit
returns-else-bit c = (if_off _ _ _ (sym c.bit.ensures ∙ c.if-bit.false) refl, omega arith)

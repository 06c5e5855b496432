-- `edge_check::sound::allowed` meets its contract: each way through the tests is a case of the definition. Assumes nothing.
use Rattle.edge.proofs.LayoutLaws.{if_on, if_off}
use Rattle.edge.specs.Check.{allowed}
use mathlib.Core.Path.{refl, sym, ◌∙◌}
use Rattle.edge_check.proofs.sound.allowed.Goals as goal

pub returns-then-given : goal.returns-then-given
unfolding allowed
returns-then-given c = if_on _ _ _ c.if-given.true refl

pub returns-then-bit : goal.returns-then-bit
unfolding allowed
returns-then-bit c = if_off _ _ _ c.if-given.false (if_on _ _ _ (sym c.bit.ensures ∙ c.if-bit.true) refl)

pub returns-else-bit : goal.returns-else-bit
unfolding allowed
returns-else-bit c = if_off _ _ _ c.if-given.false (if_off _ _ _ (sym c.bit.ensures ∙ c.if-bit.false) refl)

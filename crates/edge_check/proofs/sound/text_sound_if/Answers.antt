-- `edge_check::sound::text_sound_if` meets its contract, by whether the bit stands. Assumes nothing.
use Rattle.edge.proofs.LayoutLaws.{if_on, if_off}
use mathlib.Core.Path.{refl, sym, ◌∙◌}
use Rattle.edge_check.proofs.sound.text_sound_if.Goals as goal

pub text_sound-requires : goal.text_sound-requires
text_sound-requires c = c.requires.1 (sym c.bit.ensures ∙ c.if-bit.true)

pub returns-then-bit : goal.returns-then-bit
returns-then-bit c = if_on _ _ _ (sym c.bit.ensures ∙ c.if-bit.true) c.text_sound.ensures

pub returns-else-bit : goal.returns-else-bit
returns-else-bit c = if_off _ _ _ (sym c.bit.ensures ∙ c.if-bit.false) refl

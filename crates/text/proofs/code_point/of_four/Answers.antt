-- `text::code_point::of_four` meets its contract: the bits of the fourth byte behind those of three. Assumes nothing.
use mathlib.Core.Path.{◌∙◌}
use Rattle.text.proofs.code_point.of_four.Goals as goal

pub returns : goal.returns
returns c = c.append_six_bits.ensures ∙ rw c.of_three.ensures

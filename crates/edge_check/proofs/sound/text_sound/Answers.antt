-- `edge_check::sound::text_sound` meets its contract: the part that is lent is the text. Assumes nothing.
use Rattle.fields.specs.Part.{part}
use native.Mathlib.Nat.{add-sub_cancel_left}
use mathlib.Core.Path.{◌∙◌}
use Rattle.edge_check.proofs.sound.text_sound.Goals as goal

pub returns : goal.returns
unfolding part
returns c = c.well_formed-2.ensures ∙ rw add-sub_cancel_left

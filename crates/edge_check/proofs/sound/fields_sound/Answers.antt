-- `edge_check::sound::fields_sound` meets its contract by `fields_tested`. Assumes nothing.
use Rattle.edge.proofs.CheckLaws.{fields_tested}
use Rattle.edge_check.proofs.sound.fields_sound.Goals as goal

pub returns : goal.returns
returns c = fields_tested _ _ c.numbers_sound.ensures c.text_sound-orig.ensures c.text_sound_if-script.ensures c.text_sound_if-value_s.ensures

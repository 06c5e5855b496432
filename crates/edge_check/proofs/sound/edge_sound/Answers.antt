-- `edge_check::sound::edge_sound` meets its contract: the texts and fields of a whole edge are within the slice. Assumes nothing.
use Rattle.edge.proofs.CheckLaws.{head_within, type_within, txt_within, view_fields, edge_tested}
use Rattle.edge_check.proofs.sound.edge_sound.Goals as goal

pub edge_at-e-requires : goal.edge_at-e-requires
edge_at-e-requires c = head_within _ _ _ c.requires

pub text_sound-requires : goal.text_sound-requires
text_sound-requires c = type_within _ _ _ _ c.edge_at-e.ensures (head_within _ _ _ c.requires)

pub text_sound-requires-2 : goal.text_sound-requires-2
text_sound-requires-2 c = txt_within _ _ _ _ c.edge_at-e.ensures (head_within _ _ _ c.requires)

pub fields_sound_at-requires : goal.fields_sound_at-requires
fields_sound_at-requires c = view_fields _ _ _ _ c.edge_at-e.ensures c.requires

pub returns : goal.returns
returns c = edge_tested _ _ _ _ c.edge_at-e.ensures c.text_sound.ensures c.text_sound-2.ensures c.fields_sound_at.ensures

-- `fields::write::put_u32` meets its contract: its halves are written by `put_u16`. Assumes nothing.
use Rattle.fields.proofs.FieldsLaws.{put_halves}
use Rattle.fields.proofs.write.put_u32.Goals as goal

pub returns : goal.returns
returns c = put_halves _ _ 2 _ c.put_u16.ensures c.put_u16-2.ensures

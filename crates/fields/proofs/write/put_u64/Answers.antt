-- `fields::write::put_u64` meets its contract: its halves are written by `put_u32`. Assumes nothing.
use Rattle.fields.proofs.FieldsLaws.{put_halves}
use Rattle.fields.proofs.write.put_u64.Goals as goal

pub returns : goal.returns
returns c = put_halves _ _ 4 _ c.put_u32.ensures c.put_u32-2.ensures

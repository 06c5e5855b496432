-- `edge_write::head::put_text` meets its contract: the length, and the bytes behind it. Assumes nothing.
use Rattle.edge.proofs.WriteLaws.{put_str}
use mathlib.Core.Path.{refl}
use Rattle.edge_write.proofs.head.put_text.Goals as goal

pub returns : goal.returns
returns c = (refl, put_str _ _ _ c.put_u16.ensures c.copy_in.ensures)

-- `edge_write::head::put_head` meets its contract: five promises in a row. Assumes nothing.
use Rattle.edge.proofs.WriteLaws.{put_all_head}
use native.Mathlib.Omega.{arith}
use Rattle.edge_write.proofs.head.put_head.Goals as goal

pub returns : goal.returns
returns c = (omega (arith, c.put_text-txt_at.ensures.0, c.put_text.ensures.0), put_all_head _ _ _ _ _ c.put_u16.ensures c.put_u16-2.ensures c.put_u16-3.ensures c.put_text-txt_at.ensures.1 c.put_text.ensures.1)

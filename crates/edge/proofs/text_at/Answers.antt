-- `edge::text_at` meets its contract: the length is read where the definition reads it. Assumes nothing.
use Rattle.edge.proofs.text_at.Goals as goal

pub returns : goal.returns
returns c = rw c.u16_at.ensures

-- `text::line::well_formed` meets its contract: a walk over all characters ends at the end exactly where all is well-formed.
use Rattle.text.proofs.line.LineLaws.{well_formed_whole}
use Rattle.text.proofs.line.well_formed.Goals as goal

pub returns : goal.returns
returns c = rw c.walk-w.ensures (well_formed_whole _)

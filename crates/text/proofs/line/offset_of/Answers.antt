-- `text::line::offset_of` meets its contract: the offset is where the walk over as many characters ends.
use mathlib.Core.Path.{ap}
use Rattle.text.specs.declared.Walked.{Walked}
use Rattle.text.proofs.line.offset_of.Goals as goal

pub returns : goal.returns
returns c = ap (λ (v : Walked). v.at.0) c.walk-w.ensures

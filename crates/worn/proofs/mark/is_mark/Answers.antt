-- `worn::mark::is_mark` meets its contract. Assumes nothing.
use mathlib.Core.Path.{◌∙◌}
use Rattle.worn.proofs.MarkLaws.{mark_at}
use Rattle.worn.proofs.mark.is_mark.Goals as goal

pub returns : goal.returns
returns c = c.starts_with.ensures.value ∙ mark_at c.args.line.now c.args.at

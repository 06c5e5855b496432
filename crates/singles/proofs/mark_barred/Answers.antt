-- `singles::mark_barred` meets its contract. Assumes nothing.
use mathlib.Core.Path.{sym, ◌∙◌}
use Rattle.singles.proofs.BarredLaws.{start_in}
use Rattle.singles.proofs.mark_barred.Goals as goal

pub bounds-marks-place : goal.bounds-marks-place
bounds-marks-place c = start_in c.requires.2.2 c.requires.1

pub returns-then-is_barred : goal.returns-then-is_barred
returns-then-is_barred c = λ table stored q. rw (sym (c.is_barred.ensures table stored q) ∙ c.if-is_barred.true)

pub returns-else-is_barred : goal.returns-else-is_barred
returns-else-is_barred c = λ table stored q. rw (sym (c.is_barred.ensures table stored q) ∙ c.if-is_barred.false)

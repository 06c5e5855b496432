-- `lines::told::page_told` meets its contract: the page's numbers, or what `refusal_told` answers. Assumes nothing.
use mathlib.Core.Path.{sym, ap, ◌∙◌}
use Rattle.answers.specs.declared.CStatus.{CStatus}
use Rattle.lines.specs.Told.{c_page, answer_told}
use Rattle.lines.proofs.told.page_told.Goals as goal

pub returns-in-Ok : goal.returns-in-Ok
returns-in-Ok c = ap answer_told (sym c.in-Ok.is)

pub returns-in-Err : goal.returns-in-Err
returns-in-Err c = ap (λ (t : CStatus). c_page t.status t.at 0) c.refusal_told-told.ensures ∙ ap answer_told (sym c.in-Err.is)

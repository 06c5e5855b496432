-- `rows::refusal::put_refusal` meets its contract. Assumes nothing.
use mathlib.Core.Path.{ap}
use Rattle.answers.specs.declared.CStatus.{CStatus}
use Rattle.rows.proofs.refusal.put_refusal.Goals as goal

pub returns : goal.returns
returns c = rw (ap (λ (t : CStatus). t.status) c.refusal_told-t.ensures, ap (λ (t : CStatus). t.at) c.refusal_told-t.ensures) at c.put_refused.ensures

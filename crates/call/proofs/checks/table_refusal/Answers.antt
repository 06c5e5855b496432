-- `call::checks::table_refusal` meets its contract. Assumes nothing.
use mathlib.Core.Path.{sym, ◌∙◌}
use borrow.Author.Tests.{eq-eqb, ne_eqb}
use Rattle.call.specs.Checks.{table_refusal}
use Rattle.call.proofs.checks.table_refusal.Goals as goal

pub returns-then-number : goal.returns-then-number
unfolding table_refusal
returns-then-number c = rw (eq-eqb _ _ (c.if-number.true ∙ c.number.ensures))

pub returns : goal.returns
unfolding table_refusal
returns c = rw (ne_eqb _ _ (λ e. c.if-number.false (e ∙ sym c.number.ensures)))

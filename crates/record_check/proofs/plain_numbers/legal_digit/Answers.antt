-- `record_check::plain_numbers::legal_digit` meets its contract.
use mathlib.Core.Path.{sym, ◌∙◌}
use borrow.Author.Tests.{eqb-true}
use native.Mathlib.Omega.{arith}
use Rattle.record_check.proofs.plain_numbers.legal_digit.Goals as goal

-- the type begins otherwise than "digit"
pub returns-then-first-ne100 : goal.returns-then-first-ne100
returns-then-first-ne100 c = λ e t h. absurd (omega arith)

pub returns : goal.returns
returns c = λ e t h. sym c.u16_at.ensures ∙ eqb-true _ _ e

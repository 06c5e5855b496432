-- `record_check::plain_numbers::legal_numbers` meets its contract.
use mathlib.Core.Path.{sym}
use mathlib.Core.Bool.{true≢false}
use Rattle.record_check.proofs.plain_numbers.ContentLaws.{numbers_is}
use Rattle.record_check.proofs.plain_numbers.legal_numbers.Goals as goal

pub returns-then-value-base : goal.returns-then-value-base
returns-then-value-base c = λ e. absurd (true≢false (sym e))

pub returns : goal.returns
returns c = λ e. numbers_is _ _ _ _ c.u64_at-value.ensures c.u64_at-base.ensures c.if-value-base.false (c.legal_digit.ensures e)

-- `record_check::plain::plain_at` meets its contract.
use native.Mathlib.Omega.{arith}
use Rattle.record_check.proofs.plain.PlainLaws.{record_is_plain}
use Rattle.record_check.proofs.plain.plain_at.Goals as goal

pub returns : goal.returns
returns c = record_is_plain _ _ _ (omega arith) (c.legal_head.ensures c.if-not-legal_head.false) c.in_ok-next.ensures c.u32_at.ensures

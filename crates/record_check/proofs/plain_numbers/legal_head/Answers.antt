-- `record_check::plain_numbers::legal_head` meets its contract: its tests are what the definition asks for.
use native.Mathlib.Omega.{arith}
use Rattle.record_check.proofs.plain_numbers.ContentLaws.{head_below, head_above}
use Rattle.record_check.proofs.plain_numbers.legal_head.Goals as goal

pub returns-then-code-gt55295 : goal.returns-then-code-gt55295
returns-then-code-gt55295 c = λ e. head_above _ _ _ c.u32_at-code.ensures c.map_fits.ensures c.if-code-gt55295.true e

pub returns : goal.returns
returns c = λ e. head_below _ _ _ c.u32_at-code.ensures c.map_fits-2.ensures (omega (arith, c.if-code-gt55295.false)) e

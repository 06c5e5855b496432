-- `record_check::plain::tail_end` meets its contract.
use Rattle.std.proofs.Common.{ap, not}
use Prim.Native.Nat.{◌+◌}
use native.Mathlib.Omega.{arith}
use borrow.Author.Tests.{not-false}
use Rattle.record_check.proofs.plain.PlainLaws.{tail_is}
use Rattle.record_check.proofs.plain.tail_end.Goals as goal

pub overflow_cast-k : goal.overflow_cast-k
overflow_cast-k c = omega (arith, c.type_inv.s (c.args.at + 16))

pub legal_numbers-requires : goal.legal_numbers-requires
legal_numbers-requires c = (omega arith, omega arith)

pub returns-then-legal_numbers : goal.returns-then-legal_numbers
returns-then-legal_numbers c = tail_is _ _ _ _ c.if-s-at-lt17.false c.if-k-gt24.false c.if-s-at.false (c.short_ascii.ensures (not-false _ (ap not c.if-not-short_ascii.false))) (c.legal_numbers.ensures c.if-legal_numbers.true)

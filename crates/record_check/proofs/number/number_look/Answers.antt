-- `record_check::number::number_look` meets its contract: the number is absent, cut off or there.
use Rattle.std.proofs.Common.{ap, not}
use native.Mathlib.Omega.{arith}
use borrow.Author.Tests.{not-true, not-false}
use Rattle.table.specs.Layout.{number}
use Rattle.record_check.specs.Look.{from_least}
use Rattle.record_check.proofs.number.LookLaws.{look_absent, number_cut_off, number_there}
use Rattle.record_check.proofs.number.number_look.Goals as goal

pub returns-then-not-there : goal.returns-then-not-there
returns-then-not-there c = look_absent (from_least c.args.least) (number 8) _ _ (not-true _ (ap not c.if-not-there.true))

pub returns-then-s-lt8 : goal.returns-then-s-lt8
returns-then-s-lt8 c = number_cut_off _ _ _ (not-false _ (ap not c.if-not-there.false)) (omega arith)

pub returns-then-s-at : goal.returns-then-s-at
returns-then-s-at c = number_cut_off _ _ _ (not-false _ (ap not c.if-not-there.false)) (omega arith)

pub returns : goal.returns
returns c = number_there _ _ _ (not-false _ (ap not c.if-not-there.false)) c.u64_at-n.ensures (omega arith)

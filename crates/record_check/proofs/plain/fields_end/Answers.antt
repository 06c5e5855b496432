-- `record_check::plain::fields_end` meets its contract: both strings are ASCII, and of what stands behind them the answer tells.
use Rattle.std.proofs.Common.{ap, not}
use mathlib.Core.Path.{refl}
use Prim.Native.Nat.{◌+◌}
use native.Mathlib.Omega.{arith}
use lib.ListN.{get_or}
use borrow.Author.Tests.{not-false}
use Rattle.record_check.proofs.plain.PlainLaws.{fields_is}
use Rattle.record_check.proofs.plain.fields_end.Goals as goal

pub overflow_cast-n : goal.overflow_cast-n
overflow_cast-n c = omega (arith, c.type_inv.s c.args.at)

pub overflow_cast-both : goal.overflow_cast-both
overflow_cast-both c = let a = c.args in omega (arith, c.type_inv.s (a.at + 1 + get_or a.s.now a.at 0))

pub overflow_add-both-2 : goal.overflow_add-both-2
overflow_add-both-2 c = let a = c.args in omega (arith, c.type_inv.s (a.at + 1 + get_or a.s.now a.at 0))

pub ascii-requires : goal.ascii-requires
ascii-requires c =
    record {
      le_n = (omega arith, omega arith, omega arith);
      bytes = λ j. (c.type_inv.s j).fits;
    }

pub tail_end-requires : goal.tail_end-requires
tail_end-requires c = (omega arith, omega arith)

pub returns : goal.returns
returns c = fields_is _ _ _ _ c.tail_end.result refl refl c.if-both-gt24.false (λ j. (c.type_inv.s j).fits) (omega arith) (c.ascii.ensures (not-false _ (ap not c.if-not-ascii.false))) c.tail_end.ensures

-- `writing::put_group` meets its contract: nothing for a zero group; otherwise the mark, the digits and the 零, one before the other. Assumes nothing.
use mathlib.Core.Bool.{◌&&◌}
use native.Mathlib.Omega.{arith}
use lib.Dec.{ltb}
use Rattle.writing.specs.Writing.{zero_if}
use Rattle.writing.proofs.CodeLaws.{group_none, group_some}
use borrow.Author.Rules.{rules}
use Rattle.writing.proofs.put_group.Goals as goal

pub returns-then-g-eq0 : goal.returns-then-g-eq0
returns-then-g-eq0 c =
    record {
      begins = (search rules, search rules, c.requires.2);
      stored = λ m h. group_none _ _ _ _ m c.if-g-eq0.true;
    }

pub put-requires : goal.put-requires
put-requires c = (omega arith, omega arith, c.put_digits-b.ensures.begins.2, (zero_if (ltb 0 c.args.h && ltb c.args.g 1000), c.zero_if.ensures))

pub returns : goal.returns
returns c =
    record {
      begins = (omega arith, omega arith, c.put.ensures.begins.2);
      stored = λ m h. group_some c.args.h c.args.g m (λ e. omega (arith, c.if-g-eq0.false))
          (c.put-a.ensures.stored m h) c.put_digits-b.ensures.stored
          (c.put.ensures.stored (zero_if (ltb 0 c.args.h && ltb c.args.g 1000)) c.zero_if.ensures);
    }

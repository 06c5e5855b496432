-- `writing::put_digit` meets its contract: nothing for zero; otherwise the mark, the digit and the 零, one before the other. Assumes nothing.
use mathlib.Core.Bool.{◌&&◌}
use mathlib.Core.List.{[], ◌∷◌}
use Prim.Native.Nat.{◌%◌}
use native.Mathlib.Omega.{arith}
use lib.Dec.{ltb, eqb}
use Rattle.grammar.specs.Plain.{digit}
use Rattle.writing.specs.Writing.{zero_if, digit_of}
use Rattle.writing.proofs.CodeLaws.{digit_none, digit_some}
use borrow.Author.Rules.{rules}
use Rattle.writing.proofs.put_digit.Goals as goal

pub returns-then-d-eq0 : goal.returns-then-d-eq0
returns-then-d-eq0 c =
    record {
      begins = (search rules, search rules, c.requires.2);
      stored = λ m h. digit_none _ _ _ _ m c.if-d-eq0.true;
    }

pub put-b-requires : goal.put-b-requires
put-b-requires c = (omega arith, omega arith, c.put-a.ensures.begins.2, (digit (digit_of c.args.d) ∷ [], search rules))

pub put-requires : goal.put-requires
put-requires c = (omega arith, omega arith, c.put-b.ensures.begins.2, (zero_if (ltb 0 c.args.h && eqb (c.args.h % 10) 0), c.zero_if.ensures))

pub returns : goal.returns
returns c =
    record {
      begins = (omega arith, omega arith, c.put.ensures.begins.2);
      stored = λ m h. digit_some c.args.h c.args.d m (λ e. omega (arith, c.if-d-eq0.false))
          (c.put-a.ensures.stored m h) (c.put-b.ensures.stored (digit (digit_of c.args.d) ∷ []) (search rules))
          (c.put.ensures.stored (zero_if (ltb 0 c.args.h && eqb (c.args.h % 10) 0)) c.zero_if.ensures);
    }

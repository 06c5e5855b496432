-- `writing::put` meets its contract: nothing, or three bytes for one of the sixteen characters. Assumes nothing.
use native.Mathlib.Omega.{arith}
use lib.ListN.{length-set}
use Rattle.writing.proofs.BeforeLaws.{mark_small, mark_none, before_none, before_mark}
use borrow.Author.Rules.{rules}
use Rattle.writing.proofs.put.Goals as goal

pub returns-in_default : goal.returns-in_default
returns-in_default c =
    record {
      begins = (search rules, search rules, c.requires.2);
      stored = λ m h. before_none _ _ (mark_none m _ h c.in_default.is);
    }

pub overflow_cast-buf : goal.overflow_cast-buf
overflow_cast-buf c = omega (arith, mark_small c.requires.3.0 _ c.in-Some.c c.requires.3.1 c.in-Some.is)

pub returns : goal.returns
returns c =
    record {
      begins = (omega arith, omega arith, simp length-set c.requires.2);
      stored = λ m h. before_mark _ _ _ _ m (omega arith) (omega arith) h c.in-Some.is;
    }

-- `writing::write_number` meets its contract: a number above TOP; an output too short; the numeral copied to the output's front. Assumes nothing.
use mathlib.Core.Path.{refl}
use native.Mathlib.Omega.{arith}
use Rattle.writing.proofs.AnswerLaws.{above, too_short, fits}
use Rattle.writing.proofs.write_number.Goals as goal

pub returns-then-n-gt-TOP : goal.returns-then-n-gt-TOP
returns-then-n-gt-TOP c =
    record {
      answer = (above c.args.n c.args.out.now (omega (arith, c.if-n-gt-TOP.true))).0;
      after = (above c.args.n c.args.out.now (omega (arith, c.if-n-gt-TOP.true))).1;
    }

pub returns-then-out-len : goal.returns-then-out-len
returns-then-out-len c =
    record {
      answer = (too_short _ _ _ _ _ (omega arith) c.put_number-at.ensures.stored (omega (arith, c.if-out-len.true))).0;
      after = (too_short _ _ _ _ _ (omega arith) c.put_number-at.ensures.stored (omega (arith, c.if-out-len.true))).1;
    }

pub returns : goal.returns
returns c =
    record {
      answer = (fits _ _ _ _ _ (omega arith) c.put_number-at.ensures.stored refl (omega arith) _ c.copy_in.ensures).0;
      after = (fits _ _ _ _ _ (omega arith) c.put_number-at.ensures.stored refl (omega arith) _ c.copy_in.ensures).1;
    }

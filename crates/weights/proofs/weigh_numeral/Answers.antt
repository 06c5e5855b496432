-- `weights::weigh_numeral` meets its contract: an output too short, or the weights at its front. Assumes nothing.
use native.Mathlib.Omega.{arith}
use Rattle.weights.proofs.WeighedLaws.{row_there, too_short, all_written}
use Rattle.weights.proofs.weigh_numeral.Goals as goal

pub returns-then-out-count : goal.returns-then-out-count
returns-then-out-count c =
    record {
      answer = (too_short _ _ c.requires.0 c.requires.1 c.count_digits-count.ensures (omega (arith, c.if-out-count.true))).0;
      after = (too_short _ _ c.requires.0 c.requires.1 c.count_digits-count.ensures (omega (arith, c.if-out-count.true))).1;
    }

pub put_weights-requires : goal.put_weights-requires
put_weights-requires c =
    let (w, e, n) = row_there _ c.args.out.now c.requires.0 c.requires.1 c.count_digits-count.ensures in
    (w, e, n, omega (arith, c.if-out-count.false))

pub returns : goal.returns
returns c =
    record {
      answer = (all_written _ _ c.requires.0 c.requires.1 c.count_digits-count.ensures (omega (arith, c.if-out-count.false)) _ c.put_weights.ensures).0;
      after = (all_written _ _ c.requires.0 c.requires.1 c.count_digits-count.ensures (omega (arith, c.if-out-count.false)) _ c.put_weights.ensures).1;
    }

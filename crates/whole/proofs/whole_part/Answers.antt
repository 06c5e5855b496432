-- `whole::whole_part` meets its contract: the f64 of n lies between the two limits, and its whole part is n. Assumes nothing.
use Rattle.std.proofs.Common.{sym, ap, ◌∙◌, true≢false}
use Rattle.whole.proofs.WholeLaws.{in_u64, in_u64_within, of_nat-in_u64, of_nat-to_unsigned}
use Rattle.whole.proofs.whole_part.Goals as goal

pub truncating_f64_to_u64-requires : goal.truncating_f64_to_u64-requires
truncating_f64_to_u64-requires c =
    record {
      lower_bound = (in_u64_within c.args.x c.if-x.true).0;
      upper_bound = (in_u64_within c.args.x c.if-x.true).1;
    }

pub returns-then-x : goal.returns-then-x
returns-then-x c = λ n h p. c.truncating_f64_to_u64.ensures ∙ rw p (of_nat-to_unsigned h)

pub returns-else-x : goal.returns-else-x
returns-else-x c = λ n h p. absurd (true≢false (sym (of_nat-in_u64 h) ∙ sym (ap in_u64 p) ∙ c.if-x.false))

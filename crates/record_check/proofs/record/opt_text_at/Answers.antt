-- `record_check::record::opt_text_at` meets its contract: a string that is there is `text_at`'s; an absent one has no bytes.
use native.Mathlib.Omega.{arith}
use Rattle.table.specs.Layout.{text}
use Rattle.table.proofs.LayoutLaws.{opt_text_there, opt_absent}
use Rattle.record_check.proofs.record.opt_text_at.Goals as goal

pub returns-then-there : goal.returns-then-there
returns-then-there c =
    record {
      result_value = opt_text_there _ _ c.text_at.result c.if-there.true c.text_at.ensures.result_value;
      within = c.text_at.ensures.within;
    }

pub returns-else-there : goal.returns-else-there
returns-else-there c =
    record {
      result_value = opt_absent text _ _ _ c.if-there.false;
      within = omega arith;
    }

-- `table::layout::text_at` meets its contract: each answer is one law of `text`.
use mathlib.Core.Path.{sym}
use native.Mathlib.Omega.{arith}
use Rattle.table.proofs.LayoutLaws.{text_missing, text_long, text_cut, text_is}
use Rattle.table.proofs.layout.text_at.Goals as goal

pub returns-then-s-at : goal.returns-then-s-at
returns-then-s-at c =
    record {
      result_value = sym (text_missing _ _ c.if-s-at.true);
      within = tt;
    }

pub overflow_cast-len : goal.overflow_cast-len
overflow_cast-len c = omega (arith, c.type_inv.s c.args.at)

pub returns-then-len-gt-MAX_STRING : goal.returns-then-len-gt-MAX_STRING
returns-then-len-gt-MAX_STRING c =
    record {
      result_value = sym (text_long _ _ c.if-s-at.false c.if-len-gt-MAX_STRING.true);
      within = tt;
    }

pub returns-then-s-start : goal.returns-then-s-start
returns-then-s-start c =
    record {
      result_value = sym (text_cut _ _ c.if-s-at.false c.if-len-gt-MAX_STRING.false (omega arith));
      within = tt;
    }

pub returns : goal.returns
returns c =
    record {
      result_value = sym (text_is _ _ c.if-s-at.false c.if-len-gt-MAX_STRING.false (omega arith));
      within = omega arith;
    }

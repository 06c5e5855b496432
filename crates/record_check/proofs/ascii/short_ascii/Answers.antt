-- `record_check::ascii::short_ascii` meets its contract: the bytes that are looked at end with the string's, or are the string's.
use mathlib.Core.Path.{sym}
use mathlib.Core.Bool.{true≢false}
use native.Mathlib.Omega.{arith}
use Rattle.record_check.proofs.ascii.MaskLaws.{ascii_part}
use Rattle.record_check.proofs.ascii.short_ascii.Goals as goal

pub returns-then-end-lt8 : goal.returns-then-end-lt8
returns-then-end-lt8 c = λ e. absurd (true≢false (sym e))

pub returns-then-s-end-ge128 : goal.returns-then-s-end-ge128
returns-then-s-end-ge128 c = λ e. absurd (true≢false (sym e))

pub four_ascii-requires : goal.four_ascii-requires
four_ascii-requires c =
    record {
      at_in_bounds = omega arith;
      bytes = λ j. (c.type_inv.s j).fits;
    }

pub returns-then-len-le4 : goal.returns-then-len-le4
returns-then-len-le4 c = λ e. ascii_part _ _ _ _ _ (omega arith) (omega arith) (c.four_ascii.ensures e)

pub low_eight-requires : goal.low_eight-requires
low_eight-requires c =
    record {
      at_in_bounds = omega arith;
      bytes = λ j. (c.type_inv.s j).fits;
    }

pub returns-then-len-le8 : goal.returns-then-len-le8
returns-then-len-le8 c = λ e. ascii_part _ _ _ _ _ (omega arith) (omega arith) (c.low_eight.ensures e)

pub returns-then-len-gt24 : goal.returns-then-len-gt24
returns-then-len-gt24 c = λ e. absurd (true≢false (sym e))

pub ascii-requires : goal.ascii-requires
ascii-requires c =
    record {
      le_n = (omega arith, omega arith, omega arith);
      bytes = λ j. (c.type_inv.s j).fits;
    }

pub returns : goal.returns
returns c = c.ascii.ensures

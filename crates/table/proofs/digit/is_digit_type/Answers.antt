-- `table::digit::is_digit_type` meets its contract: a part of five bytes is held against a number and a byte.
use Rattle.table.proofs.digit.TypeLaws.{digit_length, digit_is}
use Rattle.table.proofs.digit.is_digit_type.Goals as goal

pub returns-then-p-ne5 : goal.returns-then-p-ne5
returns-then-p-ne5 c = digit_length _ _ _ c.requires c.if-p-ne5.true

pub returns : goal.returns
returns c = digit_is _ _ _ c.requires c.if-p-ne5.false (λ j. (c.type_inv.s j).fits) c.u32_at.ensures

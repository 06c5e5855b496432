-- `regular::is_regular` meets its contract: the fields are the record's. Assumes nothing.
use Rattle.regular.proofs.CheckLaws.{record_told}
use Rattle.regular.proofs.is_regular.Goals as goal

pub is_digit_type-digit-requires : goal.is_digit_type-digit-requires
is_digit_type-digit-requires c = c.requires.type_within

pub returns : goal.returns
returns c = record_told _ _ c.is_digit_type-digit.ensures c.number_if-value.ensures c.number_if-base.ensures c.of_four_kinds.ensures

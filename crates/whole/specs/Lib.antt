-- The definitions that the contracts of `whole` cite.
pub mod Whole
pub mod Decimal
pub mod Answers

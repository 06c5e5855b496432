-- The definitions that the contracts of `decimals` cite.
pub mod Quotient

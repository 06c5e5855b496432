-- The definitions that the contracts of `singles` cite.
pub mod ByPlace

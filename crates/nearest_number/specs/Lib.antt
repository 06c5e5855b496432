-- The definitions that the contracts of `nearest_number` cite.
pub mod Nearest

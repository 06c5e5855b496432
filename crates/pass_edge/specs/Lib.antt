-- The definitions that the contracts of `pass_edge` cite.
pub mod Grounded
pub mod Texts
pub mod Fields
pub mod Adding

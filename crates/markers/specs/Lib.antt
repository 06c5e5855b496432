-- The definitions that the contracts of `markers` cite.
pub mod Marks
pub mod Texts

-- The definitions of `numeral`.
pub mod Numeral
pub mod Field
pub mod Walk

-- What the exported functions answer.
pub mod Exported
pub mod EdgeNumbers
pub mod Numerals
pub mod TableTold
pub mod Tables
pub mod Version

-- What is promised of paths beyond the contracts.
pub mod Theorems
pub mod First
pub mod PathRead
pub mod PathShorter

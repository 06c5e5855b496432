-- What is promised of a walk beyond the contracts, and a walker's parts.
pub mod Parts
pub mod Theorems
pub mod WholeTheorems

-- The laws that the proofs of `nearest_number` share, its theorems, and examples.
pub mod NearestLaws
pub mod Given
pub mod OrderLaws
pub mod Theorems
pub mod Cases

-- The laws that the proofs of `walker::steps` and `walker` share.
pub mod WalkLaws

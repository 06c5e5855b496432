-- The proofs of `fallback`.
pub mod MarkLaws
pub mod WalkLaws
pub mod DigitLaws

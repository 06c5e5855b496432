-- The proofs of `separators`.
pub mod MarkLaws
pub mod ApartLaws
pub mod StepLaws
pub mod LegalLaws

-- The proofs of `lines`.
pub mod LineLaws
pub mod AnswerLaws
pub mod PageLaws
mod FillLaws
mod RowLaws
pub mod Theorems

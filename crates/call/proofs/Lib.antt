-- The proofs of `call`.
pub mod AnswerLaws
pub mod MapLaws

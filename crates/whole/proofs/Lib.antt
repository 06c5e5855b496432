-- Laws of the definitions of `whole`, for its own proofs and its callers'.
pub mod WholeLaws
pub mod DecimalLaws
pub mod AnswersLaws
pub mod SetsLaws
pub mod Theorems
pub mod Cases

-- The laws of `marks`, for its proofs and its callers'.
pub mod ReadLaws

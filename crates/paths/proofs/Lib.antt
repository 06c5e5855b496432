-- The laws that the proofs of `paths` and its callers share.
pub mod BestLaws
pub mod ReadingLaws
pub mod ShownLaws
pub mod TableLaws
pub mod PathLaws

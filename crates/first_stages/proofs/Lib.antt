-- The proofs of `first_stages`.
pub mod PassedLaws
pub mod StageLaws

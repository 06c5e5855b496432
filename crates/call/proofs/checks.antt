-- The proofs of `call::checks`.
pub mod CheckLaws

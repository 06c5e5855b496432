-- The proofs of `call::last_stages`.
pub mod RestLaws

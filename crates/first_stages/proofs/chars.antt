-- The proofs of `first_stages::chars`.
pub mod PointLaws
pub mod AddingLaws
pub mod FirstLaws

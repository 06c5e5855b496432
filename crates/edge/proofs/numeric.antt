-- The laws that the proofs of `edge::numeric` share.
pub mod ReadLaws

-- The laws that the proofs of `walker::whole_edge` share.
pub mod EdgeLaws

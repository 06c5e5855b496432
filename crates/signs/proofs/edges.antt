-- What the proofs of `signs::edges`, and its callers', share.
pub mod TowardLaws
pub mod SignLaws
pub mod BufferLaws

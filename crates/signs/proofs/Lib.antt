-- What the proofs of `signs`, and its callers', share.
mod StoredEdgeLaws
pub mod CallLaws

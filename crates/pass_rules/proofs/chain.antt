-- Laws of a chain and its next edge, for this crate's proofs and its callers'.
pub mod ChainLaws

-- Laws of a walk over a whole text, for this crate's proofs and its callers'.
pub mod LineLaws

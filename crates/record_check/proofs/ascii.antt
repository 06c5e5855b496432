-- Laws for the proofs of this crate's functions and its callers'.
pub mod MaskLaws

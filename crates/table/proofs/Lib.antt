-- Laws for the proofs of this crate's functions and its callers'.
pub mod LayoutLaws
pub mod ContentLaws
pub mod CheckLaws
pub mod LookupLaws

-- Laws for the proofs of this crate's functions, besides those of `table`.
pub mod PlainLaws

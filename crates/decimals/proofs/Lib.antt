-- Laws of a written decimal's f64 and of its exact product, for this crate's proofs and its callers'.
pub mod PowerLaws
pub mod QuotientLaws
pub mod ProductLaws
pub mod Cases

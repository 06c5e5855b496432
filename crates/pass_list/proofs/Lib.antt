-- Laws of the definitions in specs/, for the proofs of the crates above.
pub mod NextLaws
pub mod StoredLaws

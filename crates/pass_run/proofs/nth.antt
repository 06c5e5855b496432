-- Laws of the list behind the lattice, for this crate's proofs and its callers'.
pub mod BehindLaws

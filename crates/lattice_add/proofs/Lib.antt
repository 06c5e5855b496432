-- Laws of one edge more, for the proofs of `lattice_add` and its callers'.
pub mod GrowLaws
pub mod AddLaws
pub mod GivenLaws

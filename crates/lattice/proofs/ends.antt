-- Laws for the proofs of `lattice::ends`.
pub mod EmptyLaws

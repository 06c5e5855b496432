-- Laws of the search for an edge, for the proofs of `lattice::find` and its callers'.
pub mod BucketLaws
pub mod SearchLaws

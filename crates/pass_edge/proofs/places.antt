-- What the proofs of `pass_edge::places`, and its callers', share.
pub mod PlacesLaws

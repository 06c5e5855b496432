-- Laws of Euclid's algorithm, for the proofs of `passes::ratio`.
pub mod RatioLaws

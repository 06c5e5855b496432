-- Laws of the tests, for this crate's proofs and its callers'.
pub mod FilterLaws

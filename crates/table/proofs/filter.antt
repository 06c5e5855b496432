-- Laws of the definitions in specs/, for this crate's proofs and its callers'.
pub mod FilterLaws

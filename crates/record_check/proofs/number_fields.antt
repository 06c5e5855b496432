-- Laws of the numbers of a record, for this crate's proofs and its callers'.
pub mod NumbersLaws

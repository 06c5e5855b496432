-- Laws of the rows, for the crate's own proofs and its callers'.
pub mod RowsLaws
pub mod PrintedLaws

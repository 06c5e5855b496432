-- Laws of the rows of a listing, for the crate's own proofs and its callers'.
pub mod ListingRowsLaws

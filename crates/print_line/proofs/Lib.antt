-- Laws of what the program prints, for the crate's own proofs.
pub mod LineRowsLaws

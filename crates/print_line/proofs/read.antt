-- Laws of lines, for the crate's own proofs.
pub mod LineLaws

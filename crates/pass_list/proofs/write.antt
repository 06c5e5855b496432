-- Laws of a record that is written, for this crate's proofs.
mod PutLaws

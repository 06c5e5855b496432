-- What the stores of `link` come to, for this crate's proofs.
mod LinkLaws

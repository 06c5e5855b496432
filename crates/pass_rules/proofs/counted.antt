-- Laws of powers of ten, for this crate's proofs.
mod PowerLaws

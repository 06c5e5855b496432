-- Laws of the source's constants, for this crate's proofs.
mod ConstantLaws

-- Laws of a pass's loop, for this crate's proofs.
pub mod RunLaws

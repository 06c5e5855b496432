-- Laws of `specs/Look.antt`, for this crate's proofs and its callers'.
pub mod LookLaws

-- Laws of a record's fields, for this crate's proofs.
pub mod FieldLaws

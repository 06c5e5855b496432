-- Laws of a stored edge's fields, for the proofs here and the theorems on stored edges.
pub mod FieldLaws
pub mod AddedLaws

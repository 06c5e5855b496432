-- Laws of the definitions of `fields`, for its own proofs and its callers'.
pub mod PartLaws
pub mod FieldsLaws
pub mod FlagLaws

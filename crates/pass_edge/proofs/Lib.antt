-- Laws of the definitions of `pass_edge`, for its own proofs and its callers'.
pub mod RecordLaws
pub mod DigitsLaws
pub mod TextLaws

-- Laws of the definitions of `lattice`, for its own proofs and its callers'.
pub mod KeyLaws
pub mod KeptLaws
pub mod HoldsLaws
pub mod TurnOffLaws
pub mod FinishLaws

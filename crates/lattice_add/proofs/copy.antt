-- Laws of the definitions of `lattice_add::copy`, for its own proofs and its callers'.
pub mod CopyLaws

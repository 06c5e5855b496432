-- The laws that the proofs of `edge` share.
pub mod LayoutLaws
pub mod CheckLaws
pub mod WriteLaws

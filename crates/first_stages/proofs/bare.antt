-- The proofs of `first_stages::bare`.
pub mod BareLaws

-- The definitions of `vectors`.
pub mod Until

-- The definitions of `marks`.
pub mod Marked

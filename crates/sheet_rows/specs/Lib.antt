-- The definitions of rows.
pub mod Rows

-- The definitions of numbered candidates and of their rows.
pub mod Numbered

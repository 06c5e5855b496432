-- The definitions of a worn line.
pub mod Worn
pub mod Marked
pub mod Tried

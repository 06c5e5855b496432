-- The definitions of `fallback`.
-- The crate itself: What the steps of the fallback give.
pub mod Marks

-- The definitions of `separators`.
-- The crate itself: What the steps of F1 give.
pub mod Marks

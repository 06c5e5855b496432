-- The definitions of the call for many lines.
-- next_line: The lines of a list of bytes.
pub mod Lines
-- The crate itself: Entries, pages, and the call's answer.
pub mod Pages
-- answer, entry: What the code's functions answer on the way.
pub mod Steps
-- told: What C is told of the answer.
pub mod Told

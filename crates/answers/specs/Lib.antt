-- The definitions of `answers`.
-- The crate itself: The answers of the call.
pub mod Answers
-- reading: What C is told of the answers of the reading calls.
pub mod Statuses

-- The definitions of `print_line`.
-- The crate itself: The definitions that the contracts of `print_line` cite.
pub mod LineRows
-- read: The definitions that the contracts of `print_line::read` cite.
pub mod Line

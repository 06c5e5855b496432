-- The definitions of `table`.
-- The crate itself: The definitions that the contracts of `table` cite.
pub mod Table
pub mod Layout
pub mod Check
pub mod Answers
-- digit: The definition that the contracts of `table::digit` cite besides those of `table`.
pub mod Digit
-- record: The definitions that the contracts of `table::record` cite.
pub mod Walk
-- filter: The definitions that the contracts of `table::filter` cite.
pub mod Filter
-- index: The definitions that the contracts of `table::index` cite.
pub mod Index
-- theorems: The bytes of a table.
pub mod TableBytes

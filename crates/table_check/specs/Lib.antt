-- The definitions that the contracts of `table_check` cite besides those of `table`.
pub mod Indexed
pub mod Shape

-- The definitions of the grammar, over any alphabet and over the characters of a table, and of regular tables.
pub mod Row
pub mod Grammar
pub mod Kinds
pub mod TableGrammar

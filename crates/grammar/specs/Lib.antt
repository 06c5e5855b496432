-- The definitions of the plain table and the grammar.
pub mod Plain
pub mod PlainBytes
pub mod Grammar
pub mod OtherCharacters
pub mod Formal

-- What is a table is accepted, and what is accepted is a table.
pub mod TableBytesLaws
pub mod TableSoundLaws
pub mod OneByOne

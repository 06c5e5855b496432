-- The definitions of the proof sheet.
pub mod Sheet
pub mod Answer
pub mod Walk

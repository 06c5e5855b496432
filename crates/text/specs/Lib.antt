-- The definitions of `text`.
-- The crate itself: The definitions of `text`.
pub mod Table
pub mod Sequence
pub mod Text
pub mod Line
pub mod Bytes
-- known: The definitions that the contract of `text::known` cites.
pub mod Known

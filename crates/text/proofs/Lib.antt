-- The laws of `text`'s definitions; callers cite those of `EncodeLaws`, `TextLaws`, `PlaceLaws` and `BytesLaws`.
pub mod RowLaws
pub mod SequenceLaws
pub mod EncodeLaws
pub mod TextLaws
pub mod PlaceLaws
pub mod BytesLaws
pub mod Cases

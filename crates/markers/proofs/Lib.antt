-- What the proofs of `markers`, and its callers', share.
pub mod FoldedBytesLaws
pub mod MarkLaws
pub mod AnyLaws
pub mod TextsLaws

-- What the proofs of `text::known`, and its callers', share.
pub mod KnownLaws

-- The laws of `vectors`.
pub mod UntilLaws

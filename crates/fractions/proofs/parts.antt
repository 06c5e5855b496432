-- The laws of `fractions::parts`.
pub mod EdgeLaws
pub mod WriteLaws

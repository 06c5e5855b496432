-- The laws of `fractions::texts`.
pub mod TextLaws

-- The laws of `fractions::deactivate`.
pub mod KeepsLaws
pub mod TurnedLaws

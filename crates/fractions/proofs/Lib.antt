-- The laws of `fractions`.
pub mod KeepsLaws
pub mod OutcomesLaws
pub mod NewLaws
pub mod StageLaws
pub mod AnyMarkerLaws

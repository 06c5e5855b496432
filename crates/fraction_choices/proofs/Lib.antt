-- The laws of `fraction_choices`.
pub mod MarkerLaws
pub mod ChooseLaws

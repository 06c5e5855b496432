-- The definitions of `fraction_choices`.
-- The crate itself: The definitions that the contracts of `fraction_choices` cite.
pub mod Choices
-- decision: The definitions that the contracts of `fraction_choices::decision` cite.
pub mod Choice
pub mod Around
pub mod Decision

-- The definitions of `call`.
-- checks: What the checks of the call find.
pub mod Checks
-- last_stages: The stages after the passes.
pub mod Rest
-- stages: The calls by their kinds; all stages, up to the finished lattice.
pub mod Kinds
pub mod Stages
-- ending: What the call answers.
pub mod Answers

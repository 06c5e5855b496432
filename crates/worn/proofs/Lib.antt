-- What is shown of a worn line.
pub mod MarkLaws
pub mod PartLaws
pub mod TriedLaws
pub mod AnswerLaws
pub mod FinishedLaws
pub mod WornTheorems
pub mod Cases

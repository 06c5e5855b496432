-- What is shown of reading a field.
pub mod Parts
pub mod Found
pub mod Sound
pub mod Capped
pub mod WalkLaws
pub mod FieldLaws
pub mod SumLaws
pub mod StateLaws
pub mod ReadLaws
pub mod AnswerLaws
pub mod OneNumber
pub mod Cases

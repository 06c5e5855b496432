-- What is shown of the weights.
pub mod ShapeText
pub mod ShapeRules
pub mod Sums
pub mod WrongDigit
pub mod WalkLaws
pub mod LineLaws
pub mod OutLaws
pub mod UnitLaws
pub mod WeighedLaws
pub mod Answers
pub mod Cases

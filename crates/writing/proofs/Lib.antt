-- What is shown of written plot numbers. First the definition and what 02 promises of it, then the code.
pub mod WritingCases
pub mod GroupSmall
pub mod WritingReads
pub mod BeforeLaws
pub mod WritingLength
pub mod Theorems
pub mod CodeLaws
pub mod AnswerLaws

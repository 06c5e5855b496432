-- Laws of the passes' definitions that callers cite.
pub mod ChainsLaws
pub mod AboveLaws
pub mod Cases
pub mod LowestLaws
pub mod ChainsAlike
pub mod Alike
pub mod Apart
pub mod AboveParts
pub mod Parts
pub mod GapTexts
pub mod Twins
pub mod TwinLines
pub mod DecimalAgrees
pub mod DecimalLaws
pub mod DecimalCases

-- What is shown of full-width signs and markers.
pub mod ComparisonLaws
pub mod OneEdgeLaws
pub mod Theorems
pub mod Cases

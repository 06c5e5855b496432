-- What is promised of listings beyond the contracts.
pub mod ReadBackLaws
pub mod ListedLaws
pub mod Theorems

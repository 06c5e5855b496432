-- What is shown of the proof sheet: the laws, then the theorems.
pub mod WordLaws
pub mod PageLaws
pub mod NumberedLaws
pub mod CodeLaws
pub mod FillLaws
pub mod Theorems

-- What the check for a regular table answers.
pub mod CheckRegular

-- What is shown of regular tables: that the check tells them, examples, and what fails without each part of the condition.
pub mod CheckLaws
pub mod Makers
pub mod Without
pub mod Alone
pub mod TwoCharacters
pub mod CheckTheorems
pub mod NotRefused

-- The call by any comparison of a marker or sign with the line.
pub mod ByComparison

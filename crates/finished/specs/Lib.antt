-- The words of the theorems on a finished listing.
pub mod Finished
pub mod Keyed

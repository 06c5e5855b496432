-- The definitions that the contracts of `characters` cite.
pub mod CharStored
pub mod Initial

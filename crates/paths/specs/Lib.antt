-- The definitions of `paths`.
-- The crate itself: The definitions that the contracts of `paths` cite.
pub mod Best
pub mod Reading
pub mod Shown
pub mod Path
pub mod Table
-- theorems: What the theorem on a path's length says.
pub mod Shorter

-- The definitions of `numbers`.
-- The crate itself: The definitions of the call, in the order in which they are read.
pub mod Listed
pub mod Folded
pub mod Fractions
pub mod Signs
pub mod Separators
pub mod Singles
pub mod Fallback
pub mod Call
pub mod Says
-- stages: What the stages of the call share.
pub mod Ready
pub mod CallEdge
pub mod Marks

-- The definitions of the passes, in the order in which they are read.
pub mod NumEdge
pub mod Characters
pub mod Chains
pub mod Passes
pub mod DecimalPasses
pub mod Moved
pub mod Renaming

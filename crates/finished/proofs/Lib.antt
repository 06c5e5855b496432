-- What is shown of a listing that the call answered: the laws, then the theorems.
pub mod LatticeLaws
pub mod KeyedLaws
pub mod SpokenLaws
pub mod OneEdgeLaws
pub mod Readable
pub mod Demand3
pub mod Marked

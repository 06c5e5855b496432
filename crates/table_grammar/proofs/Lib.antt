-- What is shown of the grammar over any alphabet, and of the passes with a regular table.
pub mod Tests
pub mod ChainParts
pub mod Pieces
pub mod Readings
pub mod Maximal
pub mod Computed
pub mod Alphabets
pub mod KindLaws
pub mod FourPasses
pub mod FifthPass
pub mod Others
pub mod Settled
pub mod RegularDemand3
pub mod Within

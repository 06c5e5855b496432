-- The passes on stored edges are those of the definitions, one by one and in turn.
pub mod Simulation
pub mod EveryLaws
pub mod KindLaws
pub mod InTurnLaws
pub mod FirstStoredLaws
pub mod Theorems

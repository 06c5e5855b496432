-- The laws that the proofs of `fraction_choices::decision` share.
pub mod NeighborLaws
pub mod ValueLaws
pub mod DecisionLaws

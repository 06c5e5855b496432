-- The definitions that the contracts of `walker::steps` and `walker` cite.
pub mod Walk
-- whole_edge: A whole edge by its numbers.
pub mod WholeEdge

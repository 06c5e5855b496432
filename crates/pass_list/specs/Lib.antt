-- The definitions of `pass_list`.
-- The crate itself: The definitions that the contracts of `pass_list` and of the crates over it cite.
pub mod Kind
pub mod StoredEdge
pub mod Layout
pub mod Stored
pub mod StoredPass
pub mod Answers
pub mod Edges
-- in_turn: The passes in turn on stored edges, and the stored edges of a line's characters.
pub mod InTurn
pub mod FirstStored

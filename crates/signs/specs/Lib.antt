-- The definitions of `signs`.
-- The crate itself: The definitions that the contracts of `signs` cite.
pub mod SignsOf
-- edges: The definitions that the contracts of `signs::edges` cite.
pub mod SignEdges

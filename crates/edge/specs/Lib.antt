-- The definitions of `edge`.
-- The crate itself: The definitions that the contracts of `edge` cite.
pub mod Edge
pub mod Layout
pub mod Check
pub mod View
pub mod Write
-- theorems: Edges that may be listed.
pub mod Legal

-- The definitions of `fractions`.
-- The crate itself: The definitions that the contracts of `fractions` cite.
pub mod Planned
pub mod AnyMarker
-- deactivate: The definitions that the contracts of `fractions::deactivate` cite.
pub mod Outcomes
-- texts: The definition that the contracts of `fractions::texts` cite.
pub mod NewTexts
-- parts: The definitions that the contracts of `fractions::parts` cite.
pub mod NewParts
-- new_edge: The definitions that the contracts of `fractions::new_edge` cite.
pub mod NewEdge

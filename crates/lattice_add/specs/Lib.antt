-- The definitions that the contracts of `lattice_add::copy` cite.
pub mod Copy
-- Those of `lattice_add` itself.
pub mod Planned

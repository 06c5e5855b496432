-- Laws of an edge that is written behind the listing, for the proofs of this crate and of `lattice_add::numeric`.
pub mod ComposeLaws

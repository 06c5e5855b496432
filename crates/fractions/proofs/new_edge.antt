-- The laws of `fractions::new_edge`.
pub mod FractionLaws

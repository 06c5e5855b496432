-- Laws of the texts of a stored edge.
pub mod TextsLaws

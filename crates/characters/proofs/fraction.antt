-- Laws of a record's fraction, for the proof here and its callers'.
pub mod FractionLaws

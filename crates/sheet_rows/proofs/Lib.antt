-- What is shown of rows.
pub mod Rising
pub mod RowLaws
pub mod CodeLaws

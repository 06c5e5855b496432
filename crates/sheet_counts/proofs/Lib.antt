-- What is shown of the table.
pub mod CountLaws

-- A law of the columns, for the crate's own proofs.
mod ColumnLaws

-- The definitions of `rows`.
-- The crate itself: The definitions that the contracts of `rows` cite.
pub mod Rows
-- columns: The definition that the contracts of `rows::columns` cite.
pub mod Columns
-- listing: The definitions that the contracts of `rows::listing` cite.
pub mod ListingRows
-- refusal: The definitions that the contracts of `rows::refusal` cite.
pub mod Printed

-- The definitions of `record_check`.
-- ascii: The definition that the contracts of `record_check::ascii` cite.
pub mod Ascii
-- texts: The definitions that the contracts of `record_check::texts` cite besides those of `table`.
pub mod Rest
-- number: The definitions that the contracts of `record_check::number` and its callers cite besides those of `table`.
pub mod Look
-- plain_numbers: The definitions that the contracts of `record_check::plain_numbers` and `record_check::plain` cite besides those of `table`.
pub mod PlainContent
-- plain: The definitions that the contracts of `record_check::plain` cite besides those of `table`.
pub mod Plain
-- record: The definitions that the contracts of `record_check::record` cite besides those of `table`.
pub mod Content
pub mod RecordCheck

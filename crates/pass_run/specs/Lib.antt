-- The definitions of `pass_run`.
-- The crate itself: The definitions that the contracts of `pass_run` cite, besides those of `pass_list`.
pub mod Ended
pub mod Run
-- nth: The passes by their number.
pub mod Nth

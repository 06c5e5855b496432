-- The proofs of `first_stages::given`.
pub mod GivenLaws

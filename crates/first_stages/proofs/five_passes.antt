-- The proofs of `first_stages::five_passes`.
pub mod FrontLaws
pub mod RootLaws
pub mod GroundLaws
pub mod KeptLaws
pub mod FiveLaws
pub mod JoinedLaws
pub mod AddingLaws

-- Laws that the stages of the call share.
pub mod ReadLaws
pub mod OverLaws
pub mod InactiveLaws
pub mod CallLaws
pub mod SoundLaws
pub mod MarkLaws

-- What is shown of the second call, and the laws of the stage's code.
pub mod SilenceLaws
pub mod PassPlaces
pub mod SinglePlaces
pub mod SecondLattice
pub mod PlaceLaws
pub mod ByPlace
pub mod GivenLaws
pub mod SecondCall
pub mod WalkLaws
pub mod StageLaws
pub mod BarredLaws

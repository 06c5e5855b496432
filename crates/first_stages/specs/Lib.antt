-- The definitions of `first_stages`.
-- The crate itself: What the stages leave up to the five passes.
pub mod Stages
-- five_passes: The passes in the work space.
pub mod Five
-- chars: What the stage of the line's characters leaves.
pub mod CharStage
-- bare: A line that no stage adds an edge to.
pub mod Bare

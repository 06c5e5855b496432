-- Laws of the room that a writer has left.
pub mod RoomLaws

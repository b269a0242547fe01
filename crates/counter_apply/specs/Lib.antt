-- `DropLaws`: rows that go, once they are marked. `RoomLaws`: a table with room to lay rows aside.
pub mod DropLaws
pub mod RoomLaws

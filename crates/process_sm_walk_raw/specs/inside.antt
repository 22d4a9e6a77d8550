pub mod ChangeRooms

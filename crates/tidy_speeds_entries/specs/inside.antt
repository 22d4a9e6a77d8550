pub mod LaidRooms

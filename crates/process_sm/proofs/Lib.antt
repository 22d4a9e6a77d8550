pub mod WorkRoom
pub mod FewTidied
pub mod WalkedIntoRooms

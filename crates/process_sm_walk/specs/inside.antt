pub mod NextChange
pub mod NoWarp
pub mod Opening
pub mod Rooms
pub mod Written

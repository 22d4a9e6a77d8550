pub mod Snap
pub mod Sheet
pub mod Kept
pub mod inside

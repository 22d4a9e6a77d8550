pub mod Changed
pub mod Placing

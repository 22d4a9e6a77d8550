pub mod Apart
pub mod Waiting

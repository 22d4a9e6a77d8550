pub mod Turns
pub mod Outcomes
pub mod AllKept

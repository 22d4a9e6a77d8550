pub mod Turns
pub mod TextSizes

pub mod Taken
pub mod Whole
pub mod OfText

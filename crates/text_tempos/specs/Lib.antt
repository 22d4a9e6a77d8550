pub mod TempoText
pub mod Answers
pub mod inside

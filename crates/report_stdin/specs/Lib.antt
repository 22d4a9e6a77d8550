pub mod Fed
pub mod Answers

pub mod Scrolls
pub mod Answers
pub mod inside

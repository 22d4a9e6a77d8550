pub mod Question
pub mod Marked
pub mod History
pub mod inside

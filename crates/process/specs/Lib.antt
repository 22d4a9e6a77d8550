pub mod ByFormat
pub mod ListsTaken

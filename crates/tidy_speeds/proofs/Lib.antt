pub mod ListTaken
pub mod Outcomes
pub mod Rising

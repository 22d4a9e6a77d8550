pub mod MarkedTaken
pub mod OneOutcome
pub mod TidiedMarks
pub mod TooLong

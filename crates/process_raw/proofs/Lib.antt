pub mod BothTaken
pub mod FrontRead
pub mod OneOutcome

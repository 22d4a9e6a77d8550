pub mod MarkedTaken
pub mod PlacesCarried
pub mod WithoutMarks
pub mod Outcomes
pub mod OneOutcome

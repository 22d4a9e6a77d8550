pub mod StayTests
pub mod TemposTaken
pub mod Outcomes
pub mod EachStays
pub mod OneOutcome

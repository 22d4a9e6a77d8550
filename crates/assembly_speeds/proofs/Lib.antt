pub mod NarrowedSpeeds
pub mod QuantizedTaken
pub mod Outcomes
pub mod Untested
pub mod OneOutcome

pub mod SpeedAtPlace
pub mod Outcomes
pub mod OneOutcome

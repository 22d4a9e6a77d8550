pub mod Merging
pub mod OneOutcome

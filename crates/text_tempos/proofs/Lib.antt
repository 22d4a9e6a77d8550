pub mod EntriesLeft
pub mod EntrySizes
pub mod Outcomes
pub mod OneOutcome
pub mod SeenTexts

pub mod QuietRows
pub mod BeyondAMark
pub mod BeatByBeat
pub mod PlacesInColumns
pub mod AskedAsHistories
pub mod RunOutcome
pub mod OneOutcome
pub mod RefusalKeepsAll

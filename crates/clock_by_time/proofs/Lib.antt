pub mod WalkedFresh
pub mod LaterTimes
pub mod InfoOutcome
pub mod OneOutcome

pub mod StayTests
pub mod Narrowed
pub mod SortedChanges
pub mod Outcomes
pub mod EachStays
pub mod OneOutcome

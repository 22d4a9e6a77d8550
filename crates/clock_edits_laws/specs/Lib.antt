pub mod AgreeingTimings
pub mod EditsFurtherOn
pub mod SmallestPairs

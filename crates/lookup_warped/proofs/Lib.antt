pub mod KeysCounted
pub mod RowsByKey
pub mod HowFar
pub mod PassCountsKeys
pub mod OnePassCounts
pub mod SpanHasAll
pub mod PassingOn
pub mod SmallCases

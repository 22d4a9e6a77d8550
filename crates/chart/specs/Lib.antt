pub mod ChartColumns
pub mod Timing

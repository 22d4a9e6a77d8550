pub mod InTwoLoops
pub mod QuantizedNumbers
pub mod OffGridCounts

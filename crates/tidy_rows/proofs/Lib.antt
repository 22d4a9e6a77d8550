pub mod TakenBeats
pub mod RowPattern
pub mod BothWays
pub mod RowsRise
pub mod LastOfEachRow
pub mod TidiedAgain
pub mod NoLonger
pub mod AnyValues

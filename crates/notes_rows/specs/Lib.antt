pub mod Measures
pub mod RowBeats
pub mod inside

pub mod Turns
pub mod KeptInOnePass
pub mod AllKept
pub mod ColumnsLaid

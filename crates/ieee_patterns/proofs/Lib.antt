pub mod Nan
pub mod WordRead

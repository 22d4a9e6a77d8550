pub mod Ssc
pub mod inside

pub mod Lookups
pub mod inside

pub mod LookupLists
pub mod Refused
pub mod inside

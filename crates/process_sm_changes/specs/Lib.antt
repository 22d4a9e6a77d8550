pub mod SmChanges
pub mod inside

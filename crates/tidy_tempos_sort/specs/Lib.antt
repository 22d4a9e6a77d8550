pub mod Sorting
pub mod inside

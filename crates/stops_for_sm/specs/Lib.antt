pub mod Merging
pub mod Plain
pub mod Filling
pub mod inside

pub mod Sm
pub mod inside

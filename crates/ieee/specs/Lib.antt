pub mod Rounding
pub mod Narrowing
pub mod Nearest
pub mod Magnitude
pub mod Constants
pub mod Columns
pub mod inside

pub mod Sm
pub mod Lent

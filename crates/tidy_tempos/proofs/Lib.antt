pub mod KeptTurns
pub mod FromZero
pub mod InOrder
pub mod ByKey
pub mod AllChange
pub mod Falling
pub mod KeptBack

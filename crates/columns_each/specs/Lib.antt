pub mod OffGrid
pub mod inside

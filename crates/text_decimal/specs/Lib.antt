pub mod Dec6
pub mod Reading
pub mod inside

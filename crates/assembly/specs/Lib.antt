pub mod Assembly
pub mod inside

pub mod Near
pub mod Keeping
pub mod Passing
pub mod Changing
pub mod Searching
pub mod inside

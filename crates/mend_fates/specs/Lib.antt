pub mod Mending
pub mod MendedLists
pub mod inside

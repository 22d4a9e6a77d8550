pub mod Page
pub mod Digits

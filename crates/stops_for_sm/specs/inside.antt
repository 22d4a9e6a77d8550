pub mod InHand
pub mod Passing

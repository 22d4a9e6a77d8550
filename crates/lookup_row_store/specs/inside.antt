pub mod InLine
pub mod Placing
pub mod Refusal

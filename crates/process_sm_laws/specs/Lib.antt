pub mod Beats
pub mod PauseInWarp
pub mod inside

pub mod Run
pub mod MarkedRun
pub mod inside

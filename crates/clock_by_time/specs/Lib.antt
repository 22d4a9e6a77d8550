pub mod BeatAt
pub mod ManyTimes
pub mod inside

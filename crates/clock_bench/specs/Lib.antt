pub mod EventList
pub mod EventRoom
pub mod RunningDown
pub mod BenchQuestion
pub mod inside

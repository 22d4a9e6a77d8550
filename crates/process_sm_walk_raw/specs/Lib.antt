pub mod RawWalk
pub mod inside

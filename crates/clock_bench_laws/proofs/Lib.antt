pub mod AsTheWalk
pub mod FreshAgrees

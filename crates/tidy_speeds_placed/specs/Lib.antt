pub mod PlacedSpeeds
pub mod inside

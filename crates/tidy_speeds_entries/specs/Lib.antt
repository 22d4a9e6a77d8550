pub mod Speed
pub mod LaidSpeeds
pub mod inside

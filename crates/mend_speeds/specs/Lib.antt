pub mod MendedSpeeds
pub mod inside

pub mod OrderedSpeeds
pub mod inside

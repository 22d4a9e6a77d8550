pub mod AssembledSpeeds
pub mod inside

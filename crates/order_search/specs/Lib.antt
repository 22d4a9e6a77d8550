pub mod Search
pub mod F32UpTo

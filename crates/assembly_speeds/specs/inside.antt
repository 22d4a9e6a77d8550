pub mod NarrowedSpeeds

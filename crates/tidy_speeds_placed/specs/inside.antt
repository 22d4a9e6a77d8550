pub mod ListedSpeeds

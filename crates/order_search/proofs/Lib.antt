pub mod HowMany
pub mod Quartered
pub mod PlaceSplits
pub mod PatternBelow
pub mod OrderedSplits
pub mod F32UpToIsLe

pub mod ProcessedPart

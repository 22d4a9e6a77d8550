pub mod FloatEnds
pub mod Spacing
pub mod PatternParts
pub mod SumSize
pub mod Harmless

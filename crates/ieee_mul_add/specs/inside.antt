pub mod Words
pub mod FinitePatterns
pub mod CutSum
pub mod RoundedFromCut
pub mod QuickWays

pub mod Counts
pub mod Pieces
pub mod LineRead
pub mod RoundTrip
pub mod Spelling
pub mod WholeIsText
pub mod TextCounts
pub mod NoZeroByte

pub mod Joined
pub mod BytesLeft
pub mod DecimalDigits
pub mod DigitSizes
pub mod WholePage
pub mod OneOutcome

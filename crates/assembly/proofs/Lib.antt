pub mod Ends
pub mod OneOutcome
pub mod CountsHandedUp
pub mod WithoutMarks

pub mod CopiedLists
pub mod Ends
pub mod WalkedColumns
pub mod OneOutcome

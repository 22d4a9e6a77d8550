pub mod OnRows
pub mod RowsFit
pub mod Ends
pub mod ProcessedColumns
pub mod WorkColumns
pub mod MadeWarps
pub mod WarpsWithMarks
pub mod OneOutcome

pub mod ProcessedColumns
pub mod Refusal

pub mod WarpedRows
pub mod OnePass

pub mod Changes
pub mod Chart
pub mod Columns
pub mod Walking
pub mod inside

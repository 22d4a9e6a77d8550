pub mod AssembledMarks
pub mod LentMarks

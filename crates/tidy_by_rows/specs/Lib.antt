pub mod ByMarks

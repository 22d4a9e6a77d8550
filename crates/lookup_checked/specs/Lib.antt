pub mod Checked
pub mod SameAnswers

pub mod CarriedMarks
pub mod MadeWins
pub mod MergedMarks
pub mod SameMarks

pub mod OffRow
pub mod OnRow
pub mod RowByPattern
pub mod LastCounted
pub mod AnswersAtRow
pub mod CheckedIsTested

pub mod RowsRise

pub mod RowOrder
pub mod inside

pub mod RowStore
pub mod inside

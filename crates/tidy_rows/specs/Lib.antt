pub mod RowTidying
pub mod inside

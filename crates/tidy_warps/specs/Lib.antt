pub mod Marks
pub mod WarpTidying
pub mod inside

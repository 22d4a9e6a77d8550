pub mod MarkTidying
pub mod inside

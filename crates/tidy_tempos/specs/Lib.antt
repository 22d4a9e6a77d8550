pub mod TempoTidying
pub mod inside

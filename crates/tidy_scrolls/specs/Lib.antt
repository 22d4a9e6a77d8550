pub mod ScrollTidying
pub mod inside

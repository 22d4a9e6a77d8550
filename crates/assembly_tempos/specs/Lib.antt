pub mod AssembledTempos
pub mod inside

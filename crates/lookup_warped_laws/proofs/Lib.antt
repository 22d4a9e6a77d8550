pub mod AssembledOnce

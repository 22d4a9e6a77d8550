pub mod AssembledScrolls
